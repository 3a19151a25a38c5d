-- Limits: the standard values, and the word of each.
use Rattle.std.specs.Prelude.{ℕ, List, codes}
use Rattle.wot_types.specs.declared.limits.Limits.{Limits}
use Rattle.wot_types.specs.declared.limits.Limit.{Limit}
use Rattle.wot_types.specs.declared.limits.Limit.TheVariants.{Certificate, Certificates, Octets, Signatures}
use Rattle.wot_types.specs.declared.limits.Limit.TheVariants.{Verdicts, Views, Roots}

-- the program's own limits
abbrev pub standard_limits : Limits
standard_limits = record {
  certificate = 4194304;
  certificates = 65536;
  octets = 268435456;
  signatures = 1048576;
  verdicts = 2097152;
  views = 16;
  roots = 64;
}

-- the word of a limit
abbrev pub limit_word : Limit → List ℕ
limit_word Certificate = codes "certificate"
limit_word Certificates = codes "certificates"
limit_word Octets = codes "octets"
limit_word Signatures = codes "signatures"
limit_word Verdicts = codes "verdicts"
limit_word Views = codes "views"
limit_word Roots = codes "roots"
