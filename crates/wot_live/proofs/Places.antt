-- Signatures by their places.
use Rattle.std.proofs.Common.{◌≡◌, ℕ, zero, suc, ◌+◌, false, cond, List, [], ◌∷◌, Option, None, Some, sym, ap, ◌∙◌, arith}
use Rattle.std.specs.declared.cmp.Ordering.TheVariants.{Less}
use Rattle.std.specs.Cmp.{IsTotalOrder}
use Rattle.std.specs.List.{slice_get}
use Rattle.std.specs.Option.{option_and_then, option_map}
use Rattle.std.specs.Ordering.{is_eq, ordering_reverse}
use Rattle.std.proofs.lemmas.Cmp.{nat_list_cmp_total, on_total, tied_itself}
use Rattle.wot_types.specs.declared.fpr.Fpr.{Fpr}
use Rattle.wot_signature.specs.declared.facts.SigFacts.{SigFacts}
use Rattle.wot_kept_signature.specs.SingleFacts.{terms_in}
use Rattle.wot_kept_signature.specs.declared.said.Terms.{Terms}
use Rattle.wot_component.specs.Certificate.{Signature, Component, said_by, sig_cmp}
use Rattle.wot_component.specs.Ranked.{IsRising, IsBelow}
use Rattle.wot_edge.specs.declared.edge.EdgeFacts.{EdgeFacts}
use Rattle.wot_live.specs.Edge.{signature_place, edge_facts, edge_by}
use Rattle.wot_live.specs.Found.{edge_at_place, edge_with}

pub sig_total : IsTotalOrder sig_cmp
sig_total = on_total (λ s. s.body) nat_list_cmp_total

pub not_tied : (a b : Signature) → sig_cmp a b ≡ Less → is_eq (sig_cmp b a) ≡ false
not_tied a b h = ap is_eq (sig_total.antisymm b a) ∙ ap (λ o. is_eq (ordering_reverse o)) h

below_at : (x s : Signature) (ss : List Signature) (k : ℕ) → IsBelow sig_cmp x ss → slice_get ss k ≡ Some s →
    sig_cmp x s ≡ Less
below_at x s [] k h e = absurd cc
below_at x s (y ∷ ys) zero h e = let same : y ≡ s = cc in ap (sig_cmp x) (sym same) ∙ h.0
below_at x s (y ∷ ys) (suc k) h e = below_at x s ys k h.1 e

-- The place of a signature in a sorted list is its index.
pub place_at : (s : Signature) (ss : List Signature) (k : ℕ) → IsRising sig_cmp ss → slice_get ss k ≡ Some s →
    signature_place s ss ≡ k
place_at s [] k h e = absurd cc
place_at s (x ∷ xs) zero h e =
    let same : x ≡ s = cc in
    ap (λ (y : Signature). cond (is_eq (sig_cmp s y)) 0 (signature_place s xs + 1)) same
    ∙ ap (λ o. cond (is_eq o) 0 (signature_place s xs + 1)) (tied_itself sig_total s)
place_at s (x ∷ xs) (suc k) h e =
    ap (λ b. cond b 0 (signature_place s xs + 1)) (not_tied x s (below_at x s xs k h.0 e))
    ∙ (let rest = place_at s xs k h.1 e in omega (arith, rest))

-- the edge by the terms is that by all facts
by_terms : (issuer target : Fpr) (uid place : ℕ) (said : Terms) (facts : Option SigFacts)
    → Some said ≡ option_map terms_in facts
    → Some (edge_with issuer target uid place said) ≡ option_map (edge_facts issuer target uid place) facts
by_terms issuer target uid place said None known = absurd cc
by_terms issuer target uid place said (Some f) known =
    let same : said ≡ terms_in f = cc in ap (λ terms. Some (edge_with issuer target uid place terms)) same

-- the edge of the signature at a place
pub terms_at : (issuer target : Fpr) (uid place : ℕ) (p : Component) (s : Signature) (said : Terms) (e : EdgeFacts) →
    IsRising sig_cmp p.sigs → slice_get p.sigs place ≡ Some s → Some said ≡ option_map terms_in (said_by s)
    → e ≡ edge_with issuer target uid place said → Some e ≡ edge_at_place issuer target uid p place
terms_at issuer target uid place p s said e rises here known h =
    ap Some (h ∙ ap (λ k. edge_with issuer target uid k said) (sym (place_at s p.sigs place rises here)))
    ∙ by_terms issuer target uid (signature_place s p.sigs) said (said_by s) known
    ∙ ap (option_and_then (edge_by issuer target uid p.sigs)) (sym here)
