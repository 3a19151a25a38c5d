-- The reply to `absence` if the answer reaches what is wanted, and why there is a table if it doesn't.
use Rattle.std.proofs.Common.{◌≡◌, inl, inr, ℕ, ◌<◌, ◌≤◌, Bool, true, false, List, Option, None, ap, subst, arith}
use Rattle.std.specs.Prelude.{◌⊎◌, nat_le}
use Rattle.std.proofs.lemmas.Bool.{le-leb}
use Rattle.wot_edge.specs.declared.path.Path.{Path}
use Rattle.wot_edge.specs.Answer.{IsAnswer, amount_of}
use Rattle.wot_edge.specs.Path.{IsSpent, Question, use_of}
use Rattle.wot_check.specs.Absence.{IsMade}
use Rattle.wot_check.specs.Table.{Labels}
use Rattle.wot_script.specs.declared.reply.Reply.TheVariants as replies
use Rattle.wot_plain.specs.Absent.{MissesBy, TellsAbsence}

-- the reply is the sum
pub told_reached : (q : Question) (wanted sum : ℕ) (paths : List Path) → IsAnswer q wanted paths → sum ≡ amount_of paths
    → wanted ≤ sum → MissesBy q wanted (replies.Reached sum)
told_reached q wanted sum paths answer e enough =
    (paths, answer, tells (nat_le wanted (amount_of paths)) (le-leb wanted (amount_of paths) (omega (arith, e, enough))))
  where
    tells : (b : Bool) → b ≡ true → TellsAbsence b q paths (replies.Reached sum)
    tells true t = ap replies.Reached e
    tells false t = absurd cc

-- no path is left after the paths of an answer that misses what is wanted
pub never_left : (q : Question) (wanted sum : ℕ) (paths shown : List Path) (made : Option Labels)
    → IsAnswer q wanted paths → sum ≡ amount_of paths → sum < wanted → shown ≡ paths → IsMade q (use_of shown) made
    → made ≡ None → ⊥
never_left q wanted sum paths shown made answer e few same m none =
    let left = subst (λ (ps : List Path). IsMade q (use_of ps) None) same (subst (IsMade q (use_of shown)) none m) in
    by answer.ends left
  where
    by : (wanted ≤ amount_of paths) ⊎ IsSpent q (use_of paths) → IsMade q (use_of paths) None → ⊥
    by (inl enough) left = absurd (omega (arith, e, few, enough))
    by (inr spent) left = spent left.0 left.1
