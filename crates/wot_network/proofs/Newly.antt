-- A network of which nothing was made.
use Rattle.std.proofs.Common.{◌≡◌, ◌≤◌, ◌<◌, ℕ, [], Option, Some, None, sym, ap, arith}
use Rattle.wot_keyring_spec.specs.Keyring.{Keyring}
use Rattle.wot_network.specs.Net.{Line, Lines, Fits, line_at}

not_both : (n : ℕ) → 0 < n → n ≤ 0 → ⊥
not_both n h k = omega arith

none_some : {o : Option Line} {line : Line} → None ≡ o → o ≡ Some line → ⊥
none_some h k = cc

pub fits_new : (k : Keyring) (t : ℕ) (lines : Lines) → lines ≡ [] → Fits (record { time = t; count = 0; lines = lines })
    k
fits_new k t lines none = record {
  past = omega arith;
  lines = λ fpr line found. absurd (none_some (sym (ap (λ (ls : Lines). line_at ls fpr) none)) found);
  known = λ fpr x found given past. absurd (not_both x.stamp given past);
}
