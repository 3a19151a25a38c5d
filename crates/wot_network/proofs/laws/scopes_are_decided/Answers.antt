use Rattle.std.proofs.Common.{◌≡◌, ◌⊎◌, inl, inr, Bool, true, false, not, ◌||◌, refl}
use Rattle.std.specs.Prelude.{◌↔◌}
use Rattle.std.proofs.lemmas.Bool.{true≢false}
use Rattle.wot_signature.specs.Signature.{scopes_of}
use Rattle.wot_scope.specs.Deciding.{scope_holds}
use Rattle.wot_scope.specs.Scope.{ScopeHolds}
use Rattle.wot_network.specs.Records.{body_at}
use Rattle.wot_network.proofs.laws.scopes_are_decided.Goals as goal

either : (scoped holds : Bool) (P : Type 0) → (holds ≡ true) ↔ P
    → ((not scoped || holds) ≡ true) ↔ ((scoped ≡ false) ⊎ P)
either true holds P h = (λ e. inr (h.0 e), elim [ inl e ↦ absurd (true≢false e) | inr p ↦ h.1 p ])
either false holds P h = (λ e. inl refl, λ q. refl)

pub returns : goal.returns
returns c = record {
  exact = λ user_ids u edge.
      let texts = scopes_of (body_at user_ids edge.uid edge.sig) in
      either edge.scoped (scope_holds texts u) (ScopeHolds texts u) (c.scope_is_told.ensures.reported texts u);
}
