use Rattle.std.proofs.Common.{◌≡◌, false, true, Option, None, Some, sym, ap}
use Rattle.std.specs.Option.{option_map_or}
use Rattle.std.proofs.lemmas.Bool.{false≢true}
use Rattle.wot_types.specs.declared.fpr.Fpr.{Fpr}
use Rattle.wot_types.specs.Fpr.{same_fpr}
use Rattle.wot_types.specs.FprLaws.{same_fpr-true}
use Rattle.wot_kept_signature.specs.KeptFacts.{issuer_at}
use Rattle.wot_kept_signature.proofs.issuer_place.place_of.Goals as goal

-- what is equal to the issuer is the issuer
is_issuer : (issuer : Fpr) (o : Option Fpr) → option_map_or (λ found. same_fpr found issuer) o false ≡ true
    → o ≡ Some issuer
is_issuer issuer None e = absurd (false≢true e)
is_issuer issuer (Some found) e = ap Some (same_fpr-true found issuer e)

pub returns-then-stands_at : goal.returns-then-stands_at
returns-then-stands_at c =
    is_issuer c.args.issuer.now (issuer_at c.args.body.now c.loop-at.at) (sym c.if-stands_at.ensures)
