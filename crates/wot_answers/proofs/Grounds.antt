-- A kept answer is right for as long as what it depends on is unchanged.
use Rattle.std.proofs.Common.{◌≡◌, inl, inr, ℕ, ◌<◌, ◌≤◌, List, [], ◌∷◌, map, Option, Some, None, refl, sym, ap, subst}
use Rattle.std.proofs.Common.{◌∙◌, arith}
use Rattle.std.specs.Prelude.{Vec, IfSome}
use Rattle.std.specs.declared.alloc.Global.{Global}
use Rattle.std.specs.List.{AllByRecursion}
use Rattle.std.specs.Map.{lookup}
use Rattle.std.specs.Option.{option_map, option_map_or}
use Rattle.std.proofs.lemmas.Map.Made.{lookup-map_values}
use Rattle.wot_types.specs.declared.fpr.Fpr.{Fpr}
use Rattle.wot_verdict.specs.Verdicts as verdicts
use Rattle.wot_component.specs.Certificate.{Certificate}
use Rattle.wot_component.specs.Counts.{all_sigs}
use Rattle.wot_edge.specs.Answer.{amount_of}
use Rattle.wot_edge.specs.Leads.{Leads}
use Rattle.wot_edge.specs.Record.{Has, Record}
use Rattle.wot_keyring_spec.specs.declared.kept.Kept.{Kept}
use Rattle.wot_keyring_spec.specs.Keyring.{Certificates, Keyring, certificates_in, is_fpr, kept_at, stamp_at}
use Rattle.wot_keyring_spec.specs.Kept.{AreStamped, IsKeyring}
use Rattle.wot_keyring_spec.specs.Later.{IsLater, IsLaterAt, IsUnaltered, SaysSame}
use Rattle.wot_reach.specs.Making.{IsMaking}
use Rattle.wot_network.specs.Local.{AgreeAt, IsLocal}
use Rattle.wot_network.specs.Records.{record_of}
use Rattle.wot_answers.specs.declared.answers.KeptAnswer.{KeptAnswer}
use Rattle.wot_answers.specs.declared.reach.KeptReach.{KeptReach}
use Rattle.wot_answers.specs.declared.looked.Looked.{Looked}
use Rattle.wot_auth.specs.declared.answer.Answer.{Answer}
use Rattle.wot_answers.specs.declared.asked.Asked.{Asked}
use Rattle.wot_answers.specs.declared.parts.Parts.{Parts}
use Rattle.wot_answers.specs.Answers.{AllLead, AllLeadIn, AllLed, AllStill, RestsOnLeadsIn}
use Rattle.wot_answers.specs.Answers.{Grounds, IsTheAnswer, AreRight, Entries, IsFound}
use Rattle.wot_answers.specs.Asked.{IsAnswered, IsConsulted, IsFoundOver, IsKeptNow, kept_by}
use Rattle.wot_answers.specs.Looked.{Amounts, AreStill}
use Rattle.wot_answers.specs.Answers.{IsGood, IsReaching, IsRight, IsSameBut, question_at}
use Rattle.wot_answers.specs.Looked.{IsStill, look}
use Rattle.wot_answers.specs.Question.{IsAnswerAround}
use Rattle.wot_answers.specs.RightLaws.{stamped_there, stamp_past}

-- ---- one fingerprint

stripped_at : (k : Keyring) (fpr : Fpr) → lookup (is_fpr fpr) (certificates_in k) ≡ option_map
    (λ (x : Kept). x.cert) (kept_at k fpr)
stripped_at k fpr = lookup-map_values (λ (x : Kept). x.cert) (is_fpr fpr) k.certs

-- a fingerprint with stamp 0 has no certificate in the keyring
none_kept : (k : Keyring) (fpr : Fpr) → AreStamped k.changes k.certs → stamp_at k fpr ≡ 0 → kept_at k fpr ≡ None
none_kept k fpr stamped zero = by (kept_at k fpr) refl zero
  where
    by : (o : Option Kept) → kept_at k fpr ≡ o → option_map_or (λ (x : Kept). x.stamp) o 0 ≡ 0 → o ≡ None
    by None e z = refl
    by (Some x) e z = let some = (stamped_there k fpr x stamped e).0 in absurd (omega (arith, some, z))

unaltered_agrees : (k later : Keyring) (fpr : Fpr) → IsUnaltered k later fpr
    → AgreeAt (certificates_in k) k.verdicts (certificates_in later) later.verdicts fpr
unaltered_agrees k later fpr u = record {
  same = stripped_at k fpr ∙ ap (λ (o : Option Kept). option_map (λ (x : Kept). x.cert) o) (sym u.kept)
      ∙ sym (stripped_at later fpr);
  said = λ c e. by c (kept_at k fpr) refl (sym (stripped_at k fpr) ∙ e);
}
  where
    by : (c : Certificate) (o : Option Kept) → kept_at k fpr ≡ o → option_map (λ (x : Kept). x.cert) o ≡ Some c
        → AllByRecursion (SaysSame k.verdicts later.verdicts) (all_sigs c)
    by c None e f = absurd cc
    by c (Some x) e f = let same : x.cert ≡ c = cc in
        subst (λ (c : Certificate). AllByRecursion (SaysSame k.verdicts later.verdicts) (all_sigs c)) same (u.said x e)

absent_agrees : (k later : Keyring) (fpr : Fpr) → kept_at k fpr ≡ None → kept_at later fpr ≡ None
    → AgreeAt (certificates_in k) k.verdicts (certificates_in later) later.verdicts fpr
absent_agrees k later fpr none gone =
    let before : lookup (is_fpr fpr) (certificates_in k) ≡ None = stripped_at k fpr
    ∙ ap (λ (o : Option Kept). option_map (λ (x : Kept). x.cert) o) none in
    let after : lookup (is_fpr fpr) (certificates_in later) ≡ None = stripped_at later fpr
    ∙ ap (λ (o : Option Kept). option_map (λ (x : Kept). x.cert) o) gone in
    record { same = before ∙ sym after; said = λ c e. absurd cc }

-- an equal stamp in a later keyring means that nothing changed at the fingerprint
agrees_there : (k later : Keyring) (fpr : Fpr) → AreStamped k.changes k.certs → IsLaterAt k later fpr
    → stamp_at later fpr ≡ stamp_at k fpr
    → AgreeAt (certificates_in k) k.verdicts (certificates_in later) later.verdicts fpr
agrees_there k later fpr stamped (inl u) same = unaltered_agrees k later fpr u
agrees_there k later fpr stamped (inr (inl gone)) same =
    let zero : stamp_at later fpr ≡ 0 = ap (λ (o : Option Kept). option_map_or (λ (x : Kept). x.stamp) o 0) gone in
    absent_agrees k later fpr (none_kept k fpr stamped (sym same ∙ zero)) gone
agrees_there k later fpr stamped (inr (inr more)) same =
    let past = stamp_past k fpr stamped in
    absurd (omega (arith, more, past, same))

-- ---- a set of fingerprints

-- a lookup at each member of the set finds what was noted
still_at : (k later : Keyring) (roots amounts : List (Fpr × ℕ)) (set : List Fpr) (fpr : Fpr) → Has set fpr
    → AreStill later amounts (map (look k roots) set) → IsStill later amounts (look k roots fpr)
still_at k later roots amounts [] fpr has still = absurd has
still_at k later roots amounts (x ∷ xs) fpr (inl e) still =
    subst (λ (y : Fpr). IsStill later amounts (look k roots y)) (sym e) still.0
still_at k later roots amounts (x ∷ xs) fpr (inr has) still = still_at k later roots amounts xs fpr has still.1

-- the stamp noted for each member is its stamp in the keyring
same_stamps : (k : Keyring) (roots : Amounts) (set : List Fpr)
    → AllByRecursion (λ (l : Looked). stamp_at k l.fpr ≡ l.stamp) (map (look k roots) set)
same_stamps k roots [] = tt
same_stamps k roots (x ∷ xs) = (refl, same_stamps k roots xs)

each_leads : (k : Keyring) (roots : Amounts) (network : Record) (target : Fpr) (set : List Fpr) → AllLead network target set
    → AllByRecursion (λ (l : Looked). Leads network target l.fpr) (map (look k roots) set)
each_leads k roots network target [] leads = tt
each_leads k roots network target (x ∷ xs) leads = (
  leads x (inl refl),
  each_leads k roots network target xs (λ fpr h. leads fpr (inr h)),
)

-- the set leads to the target in the keyring that was consulted
lead_here : (k : Keyring) (roots : Amounts) (t : ℕ) (uid : List ℕ) (target : Fpr) (set : List Fpr)
    → AllLead (record_of (certificates_in k) k.verdicts t uid) target set
    → AllLeadIn k t uid target (map (look k roots) set)
lead_here k roots t uid target set leads = record {
  stamps = same_stamps k roots set;
  each = each_leads k roots (record_of (certificates_in k) k.verdicts t uid) target set leads;
}

led_here : (k : Keyring) (t : ℕ) (uid : List ℕ) (target : Fpr) (o : Grounds) → IsKeyring k → IsLater k k
    → IfSome o (λ (ls : Vec Looked Global). AllLeadIn k t uid target ls.items)
    → IfSome o (λ (ls : Vec Looked Global). AllLed k t uid target ls.items)
led_here k t uid target None whole itself leads = tt
led_here k t uid target (Some ls) whole itself leads =
    record { before = k; whole = whole; later = itself; there = leads }

-- the law that certificates and verdicts outside a set don't matter to it
abbrev pub RecordsAgree : Type 0
RecordsAgree = (certs : Certificates) (said : verdicts.Entries) (t : ℕ) → IsLocal certs said t (record_of certs said t)

right_made : RecordsAgree → (k : Keyring) (roots : List (Fpr × ℕ)) (a : KeptAnswer) (set : List Fpr)
    → AreStamped k.changes k.certs
    → (kept : Vec Looked Global) → a.looked ≡ Some kept → kept.items ≡ map (look k roots) set
    → a.answer.sum ≡ amount_of a.answer.paths
    → IsAnswerAround (question_at k roots a) a.wanted a.answer.paths set → IsLater k k → IsKeyring k
    → RestsOnLeadsIn k a → IsRight k a
right_made law k roots a set stamped kept there looked sum around itself whole leads = record {
  sum = sum;
  leads = led_here k a.time a.uid a.target a.looked whole itself leads;
  answer = λ later amounts is still.
      let these : AllStill later amounts (Some kept) = subst (AllStill later amounts) there still in
      let found : AreStill later amounts (map (look k roots) set) = subst (AreStill later amounts) looked these in
      around (question_at later amounts a) (law (certificates_in k) k.verdicts a.time (certificates_in later)
      later.verdicts a.uid roots amounts a.target set
      (λ fpr has. agrees_there k later fpr stamped (is.at fpr) (still_at k later roots amounts set fpr has found).stamp)
      (λ fpr has. sym (still_at k later roots amounts set fpr has found).amount));
}

-- an answer that depends on the whole keyring
right_of_all : (k : Keyring) (a : KeptAnswer) → a.looked ≡ None → a.answer.sum ≡ amount_of a.answer.paths
    → IsRight k a
right_of_all k a none sum = record {
  sum = sum;
  answer = λ later amounts is still. absurd (subst (AllStill later amounts) none still);
  leads = subst (λ (o : Option (Vec Looked Global)). IfSome o
      (λ (ls : Vec Looked Global). AllLed k a.time a.uid a.target ls.items)) (sym none) tt;
}

-- ---- an answer that is kept now

pub found_now : (p : Parts) (asked : Asked) (a : Answer) (looked : Grounds) (kept : KeptAnswer)
    → IsKeptNow p asked a looked kept → IsAnswered p asked a → IsFound p.keyring.now p.roots.now kept
found_now p asked a looked kept is answered =
    subst (IsFound p.keyring.now p.roots.now) (sym is) (record { counted = omega arith; now = answered.answer })

-- with the fingerprints that its search consulted
pub right_with : RecordsAgree → (p : Parts) (asked : Asked) (a : Answer) (looked : Vec Looked Global) (set : List Fpr)
    (kept : KeptAnswer) → IsKeptNow p asked a (Some looked) kept → AreStamped p.keyring.now.changes p.keyring.now.certs
    → looked.items ≡ map (look p.keyring.now p.roots.now) set → IsLater p.keyring.now p.keyring.now
    → IsKeyring p.keyring.now → IsAnswered p asked a → IsConsulted p asked a set → IsRight p.keyring.now kept
right_with law p asked a looked set kept is stamped items itself whole answered consulted =
    let k = p.keyring.now in
    subst (IsRight k) (sym is)
    (right_made law k p.roots.now (kept_by p asked a (Some looked) kept) set stamped looked refl items
    answered.sum consulted.local itself whole
    (subst (λ (ls : List Looked). AllLeadIn k p.t asked.uid.now asked.target.now ls) (sym items)
    (lead_here k p.roots.now p.t asked.uid.now asked.target.now set consulted.leads)))

-- it was found by what leads to the target
found_with : (p : Parts) (asked : Asked) (a : Answer) (o : Grounds) (kept : KeptAnswer) → IsKeptNow p asked a o kept
    → IfSome o (λ (ls : Vec Looked Global). AllLeadIn p.keyring.now p.t asked.uid.now asked.target.now ls.items)
    → IsFoundOver p asked kept
found_with p asked a o kept is leads =
    subst (IsFoundOver p asked) (sym is)
    (record { of = record { target = refl; wanted = refl; uid = refl; time = refl }; leads = leads })

pub found_by : (p : Parts) (asked : Asked) (a : Answer) (looked : Vec Looked Global) (set : List Fpr)
    (kept : KeptAnswer) → IsKeptNow p asked a (Some looked) kept
    → looked.items ≡ map (look p.keyring.now p.roots.now) set → IsConsulted p asked a set → IsFoundOver p asked kept
found_by p asked a looked set kept is items consulted =
    let k = p.keyring.now in
    found_with p asked a (Some looked) kept is
    (subst (λ (ls : List Looked). AllLeadIn k p.t asked.uid.now asked.target.now ls) (sym items)
    (lead_here k p.roots.now p.t asked.uid.now asked.target.now set consulted.leads))

pub found_by_all : (p : Parts) (asked : Asked) (a : Answer) (kept : KeptAnswer) → IsKeptNow p asked a None kept
    → IsFoundOver p asked kept
found_by_all p asked a kept is = found_with p asked a None kept is tt

-- with the whole keyring
pub right_without : (p : Parts) (asked : Asked) (a : Answer) (kept : KeptAnswer) → IsKeptNow p asked a None kept
    → IsAnswered p asked a → IsRight p.keyring.now kept
right_without p asked a kept is answered =
    subst (IsRight p.keyring.now) (sym is) (right_of_all p.keyring.now (kept_by p asked a None kept) refl answered.sum)

-- a right answer is the current answer if everything that it depends on is unchanged
pub right_now : ((k : Keyring) → IsLater k k) → (k : Keyring) (roots : Amounts) (a : KeptAnswer) → IsRight k a
    → AllStill k roots a.looked → IsTheAnswer k roots a
right_now itself k roots a right still = right.answer k roots (itself k) still

-- ---- when an answer was last found valid

-- an answer that is revalidated now is valid
pub good_now : (k : Keyring) (roots : Amounts) (revision : ℕ) (old new : KeptAnswer) → IsSameBut old new
    → new.count ≡ k.changes → new.revision ≡ revision → IsTheAnswer k roots old
    → IsGood k roots revision new
good_now k roots revision old new same count now here = record {
  counted = omega (arith, count);
  turned = omega (arith, now);
  now = λ e f. subst (IsTheAnswer k roots) (sym same) here;
}

-- an answer that was found valid is valid at the current revision of the roots
pub good_at : (k : Keyring) (roots : Amounts) (revision : ℕ) (a : KeptAnswer) → IsFound k roots a
    → IsGood k roots revision (record a { revision = revision })
good_at k roots revision a found = record { counted = found.counted; turned = omega arith; now = λ e f. found.now }

-- a right answer stays right after revalidation
pub right_again : (k : Keyring) (old new : KeptAnswer) → IsSameBut old new → IsRight k old → IsRight k new
right_again k old new same right = subst (IsRight k) (sym same)
    (record {
      sum = right.sum;
      answer = λ later roots is still. right.answer later roots is still;
      leads = right.leads;
    })

-- after a new revision of the roots, no answer counts as valid yet
pub right_turned : (k : Keyring) (roots others : Amounts) (revision next : ℕ) (entries : Entries) → revision < next
    → AreRight k roots revision entries
    → AreRight k others next entries
right_turned k roots others revision next [] more all = tt
right_turned k roots others revision next (e ∷ es) more all =
    let past : e.1.revision ≤ revision = all.0.1.turned in (
      (
        all.0.0,
        record {
          counted = all.0.1.counted;
          turned = omega (arith, past, more);
          now = λ f g. absurd (omega (arith, past, more, g));
        },
      ),
      right_turned k roots others revision next es more all.1,
    )

-- nor does a table of reach
pub reaching_turned : (k : Keyring) (roots others : Amounts) (revision next : ℕ) (o : Option KeptReach) → revision < next
    → IfSome o (IsReaching k roots revision)
    → IfSome o (IsReaching k others next)
reaching_turned k roots others revision next None more is = is
reaching_turned k roots others revision next (Some r) more is =
    let past : r.revision ≤ revision = is.turned in
    record {
      counted = is.counted;
      turned = omega (arith, past, more);
      now = λ e f. absurd (omega (arith, past, more, f));
    }

-- an up-to-date table in the making is one for the current reach
pub reaching_now : (k : Keyring) (roots amounts : Amounts) (revision t : ℕ) (r : KeptReach) → IsReaching k roots revision r
    → r.count ≡ k.changes → r.revision ≡ revision → r.time ≡ t
    → roots ≡ amounts → IsMaking (record_of (certificates_in k) k.verdicts t) amounts r.making
reaching_now k roots amounts revision t r is count now time same =
    subst (λ (rs : Amounts). IsMaking (record_of (certificates_in k) k.verdicts t) rs r.making) same
    (subst (λ (s : ℕ). IsMaking (record_of (certificates_in k) k.verdicts s) roots r.making) time (is.now count now))

pub reaching_made : (k : Keyring) (roots : Amounts) (revision : ℕ) (r : KeptReach) → r.count ≡ k.changes → r.revision ≡ revision
    → IsMaking (record_of (certificates_in k) k.verdicts r.time) roots r.making → IsReaching k roots revision r
reaching_made k roots revision r count now here = record
    { counted = omega (arith, count); turned = omega (arith, now); now = λ e f. here }
