-- Facts of a signature that are asked for together.
use Rattle.wot_signature.specs.declared.facts.SigFacts.{SigFacts}
use Rattle.wot_kept_signature.specs.declared.said.Times.{Times}
use Rattle.wot_kept_signature.specs.declared.said.Terms.{Terms}

abbrev pub times_in : SigFacts → Times
times_in f = record { made = f.made; lasts = f.lasts; key_lasts = f.key_lasts }

abbrev pub terms_in : SigFacts → Terms
terms_in f = record { made = f.made; depth = f.depth; amount = f.amount; scoped = f.scoped }
