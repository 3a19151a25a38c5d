-- When no word applies to a certification.
use Rattle.std.proofs.Common.{◌≡◌, ◌≤◌, ◌+◌, ℕ, Bool, true, false, cond, not, ◌&&◌, List, [], ◌∷◌, Option, Some, None}
use Rattle.std.proofs.Common.{refl, sym, ap, subst, ◌∙◌, arith}
use Rattle.std.specs.Prelude.{◌||◌, ◌==◌, nat_lt, nat_le, is_some}
use Rattle.std.specs.Ordering.{is_eq}
use Rattle.std.specs.Option.{option_and_then, option_map_or}
use Rattle.std.proofs.lemmas.Bool.{and_parts}
use Rattle.std.proofs.lemmas.Bool.Decides.{nat_tests}
use Rattle.wot_types.specs.declared.fpr.Fpr.{Fpr}
use Rattle.wot_signature.specs.declared.facts.SigFacts.{SigFacts}
use Rattle.wot_verdict.specs.Verdicts.{Entries, verdict_at}
use Rattle.wot_verdict.specs.declared.verdict.Verdict.{Verdict}
use Rattle.wot_component.specs.Certificate.{Signature, Component, said_by, sig_cmp}
use Rattle.wot_cert.specs.Issuer.{allows, good_by}
use Rattle.wot_component.specs.Judged.{is_sound}
use Rattle.wot_cert.specs.Revoked.{is_unrevoked}
use Rattle.wot_cert.specs.Time.{is_live, made_of, facts_live}
use Rattle.wot_keyring_spec.specs.Keyring.{Certificates}
use Rattle.wot_standing.specs.Standing.{newest_certification}
use Rattle.wot_standing.specs.Usable.{is_after, is_usable}
use Rattle.wot_standing.specs.declared.status.Standing.{Standing}
use Rattle.wot_explain.specs.Words.{Word, first_word, is_so}
use Rattle.wot_explain.specs.Reasons.{standing_by, issuer_standing, names_other, is_revoked_by, is_older_by}
use Rattle.wot_explain.specs.Reasons.{reason_words, reason_word}

-- ---- tests

-- each has a number of at least 1
abbrev AreNumbered : List Word → Type 0
AreNumbered [] = Unit {0}
AreNumbered (word ∷ words) = (1 ≤ word.0) × AreNumbered words

-- none applies
abbrev NoneApplies : List Word → Type 0
NoneApplies [] = Unit {0}
NoneApplies (word ∷ words) = (word.1 ≡ false) × NoneApplies words

pub none_where : (words : List Word) → AreNumbered words → first_word words ≡ 0 → NoneApplies words
none_where [] n h = tt
none_where (word ∷ words) n h = by word.1 refl (none_where words n.1) h
  where
    by : (b : Bool) → word.1 ≡ b → (first_word words ≡ 0 → NoneApplies words) → cond b word.0 (first_word words) ≡ 0 →
        NoneApplies (word ∷ words)
    by true e more h = let some = n.0 in absurd (omega (arith, h, some))
    by false e more h = (e, more h)

pub zero_of_none : (words : List Word) → NoneApplies words → first_word words ≡ 0
zero_of_none [] h = refl
zero_of_none (word ∷ words) h = ap (λ (b : Bool). cond b word.0 (first_word words)) h.0 ∙ zero_of_none words h.1

pub holds : (b : Bool) → not b ≡ false → b ≡ true
holds true e = refl
holds false e = absurd cc

pub fails : (b : Bool) → b ≡ true → not b ≡ false
fails true e = refl
fails false e = absurd cc

pub fallen : (b : Bool) → not b ≡ true → b ≡ false
fallen true e = absurd cc
fallen false e = refl

pub some_of : {A : Type 0} (o : Option A) → is_some o ≡ true → (x : A) × (o ≡ Some x)
some_of None e = absurd cc
some_of (Some x) e = (x, refl)

pub so_of : {A : Type 0} (test : A → Bool) (o : Option A) → is_so test o ≡ true →
    (x : A) × (o ≡ Some x) × (test x ≡ true)
so_of test None e = absurd cc
so_of test (Some x) e = (x, refl, e)

pub not_before : (a b : ℕ) → nat_lt a b ≡ false → nat_le b a ≡ true
not_before a b e = grind (arith, nat_tests)

pub not_after : (a b : ℕ) → nat_le b a ≡ true → nat_lt a b ≡ false
not_after a b e = grind (arith, nat_tests)

-- ---- no word

-- a certification to which no word applies
pub record IsClear (verdicts : Entries) (certs : Certificates) (t : ℕ) (uid : Component) (s : Signature) : Type 0 where
  pub issuer : Fpr
  pub facts : SigFacts
  pub standing : Standing
  pub said : good_by (verdict_at verdicts s.number) ≡ Some issuer
  pub read : said_by s ≡ Some facts
  pub sound : facts.sound ≡ true
  pub allowed : allows facts.issuer issuer ≡ true
  pub admitted : s.admitted ≡ true
  pub live : is_live t s ≡ true
  pub unrevoked : is_unrevoked verdicts issuer t uid.sigs s ≡ true
  pub newest : is_so (λ (n : Signature). is_eq (sig_cmp s n)) (newest_certification verdicts issuer t uid) ≡ true
  pub kept : standing_by verdicts certs t issuer ≡ Some standing
  pub usable : is_usable standing facts.made ≡ true

all_usable : (i : Standing) (made : ℕ) → i.has ≡ true → nat_lt made i.created ≡ false → is_after made i.end ≡ true →
    i.hard ≡ false → is_after made i.soft ≡ true → is_usable i made ≡ true
all_usable i made a b c d e = rw (a, not_before made i.created b, c, d, e) refl

pub clear_where : (verdicts : Entries) (certs : Certificates) (t : ℕ) (uid : Component) (s : Signature) →
    reason_word verdicts certs t uid s ≡ 0 → IsClear verdicts certs t uid s
clear_where verdicts certs t uid s h =
    let said = verdict_at verdicts s.number in
    let st = issuer_standing verdicts certs t said in
    let none = none_where (reason_words verdicts t uid s said st) (
      omega arith,
      (
        omega arith,
        (
          omega arith,
          (
            omega arith,
            (
              omega arith,
              (
                omega arith,
                (
                  omega arith,
                  (
                    omega arith,
                    (
                      omega arith,
                      (
                        omega arith,
                        (omega arith, (omega arith, (omega arith, (omega arith, (omega arith, tt))))),
                      ),
                    ),
                  ),
                ),
              ),
            ),
          ),
        ),
      ),
    ) h in
    let w1 = none.0 in
    let w2 = none.1.0 in
    let w3 = none.1.1.0 in
    let w4 = none.1.1.1.0 in
    let w5 = none.1.1.1.1.0 in
    let w6 = none.1.1.1.1.1.0 in
    let w7 = none.1.1.1.1.1.1.0 in
    let w8 = none.1.1.1.1.1.1.1.0 in
    let w9 = none.1.1.1.1.1.1.1.1.0 in
    let w10 = none.1.1.1.1.1.1.1.1.1.0 in
    let w11 = none.1.1.1.1.1.1.1.1.1.1.0 in
    let w12 = none.1.1.1.1.1.1.1.1.1.1.1.0 in
    let w13 = none.1.1.1.1.1.1.1.1.1.1.1.1.0 in
    let w14 = none.1.1.1.1.1.1.1.1.1.1.1.1.1.0 in
    let w15 = none.1.1.1.1.1.1.1.1.1.1.1.1.1.1.0 in
    let by = some_of (good_by said) (holds (is_some (good_by said)) w3) in
    let read = so_of (λ (f : SigFacts). f.sound) (said_by s) (holds (is_sound s) w1) in
    let kept = some_of st (holds (is_some st) w10) in
    let made : made_of s ≡ read.0.made = ap (λ (o : Option SigFacts). option_map_or (λ (f : SigFacts). f.made) o 0)
    read.1 in
    record {
      issuer = by.0;
      facts = read.0;
      standing = kept.0;
      said = by.1;
      read = read.1;
      sound = read.2;
      allowed = holds (allows read.0.issuer by.0)
          (names s by.0 read.0 read.1 (subst (λ (o : Option Fpr). is_so (names_other s) o ≡ false) by.1 w4));
      admitted = holds s.admitted w5;
      live = holds (is_live t s) w7;
      unrevoked = holds (is_unrevoked verdicts by.0 t uid.sigs s)
          (subst (λ (o : Option Fpr). is_so (is_revoked_by verdicts t uid s) o ≡ false) by.1 w8);
      newest = holds (is_so (λ (n : Signature). is_eq (sig_cmp s n)) (newest_certification verdicts by.0 t uid))
          (subst (λ (o : Option Fpr). is_so (is_older_by verdicts t uid s) o ≡ false) by.1 w9);
      kept = sym (ap (option_and_then (standing_by verdicts certs t)) by.1) ∙ kept.1;
      usable = all_usable kept.0 read.0.made
          (holds kept.0.has (subst (λ (o : Option Standing). is_so (λ (i : Standing). not i.has) o ≡ false) kept.1 w11))
          (subst (λ (m : ℕ). nat_lt m kept.0.created ≡ false) made
          (subst (λ (o : Option Standing). is_so (λ (i : Standing). nat_lt (made_of s) i.created) o ≡ false) kept.1
          w12))
          (holds (is_after read.0.made kept.0.end) (subst (λ (m : ℕ). not (is_after m kept.0.end) ≡ false) made
          (subst (λ (o : Option Standing). is_so (λ (i : Standing). not (is_after (made_of s) i.end)) o ≡ false)
          kept.1 w13)))
          (subst (λ (o : Option Standing). is_so (λ (i : Standing). i.hard) o ≡ false) kept.1 w14)
          (holds (is_after read.0.made kept.0.soft) (subst (λ (m : ℕ). not (is_after m kept.0.soft) ≡ false) made
          (subst (λ (o : Option Standing). is_so (λ (i : Standing). not (is_after (made_of s) i.soft)) o ≡ false)
          kept.1 w15)));
    }
  where
    names : (s : Signature) (issuer : Fpr) (f : SigFacts) → said_by s ≡ Some f → names_other s issuer ≡ false →
        not (allows f.issuer issuer) ≡ false
    names s issuer f e h = subst (λ (o : Option SigFacts). is_so (λ (f : SigFacts). not (allows f.issuer issuer))
        o ≡ false) e h

pub zero_where : (verdicts : Entries) (certs : Certificates) (t : ℕ) (uid : Component) (s : Signature) →
    IsClear verdicts certs t uid s → reason_word verdicts certs t uid s ≡ 0
zero_where verdicts certs t uid s h =
    let said = verdict_at verdicts s.number in
    let st = issuer_standing verdicts certs t said in
    let i = h.standing in
    let kept : st ≡ Some i = ap (option_and_then (standing_by verdicts certs t)) h.said ∙ h.kept in
    let made : made_of s ≡ h.facts.made = ap (λ (o : Option SigFacts). option_map_or (λ (f : SigFacts). f.made) o 0)
    h.read in
    let m = h.facts.made in
    let u1 = and_parts i.has (nat_le i.created m && (is_after m i.end && (not i.hard && is_after m i.soft))) h.usable in
    let u2 = and_parts (nat_le i.created m) (is_after m i.end && (not i.hard && is_after m i.soft)) u1.1 in
    let u3 = and_parts (is_after m i.end) (not i.hard && is_after m i.soft) u2.1 in
    let u4 = and_parts (not i.hard) (is_after m i.soft) u3.1 in
    zero_of_none (reason_words verdicts t uid s said st) (
      fails (is_sound s) (ap (λ (o : Option SigFacts). is_so (λ (f : SigFacts). f.sound) o) h.read ∙ h.sound),
      (
        fails (is_some said) (is_said said h.issuer h.said),
        (
          fails (is_some (good_by said)) (ap (λ (o : Option Fpr). is_some o) h.said),
          (
            ap (λ (o : Option Fpr). is_so (names_other s) o) h.said
                ∙ ap (λ (o : Option SigFacts). is_so (λ (f : SigFacts). not (allows f.issuer h.issuer)) o) h.read
                ∙ fails (allows h.facts.issuer h.issuer) h.allowed,
            (
              fails s.admitted h.admitted,
              (
                early t s h.live,
                (
                  fails (is_live t s) h.live,
                  (
                    ap (λ (o : Option Fpr). is_so (is_revoked_by verdicts t uid s) o) h.said
                        ∙ fails (is_unrevoked verdicts h.issuer t uid.sigs s) h.unrevoked,
                    (
                      ap (λ (o : Option Fpr). is_so (is_older_by verdicts t uid s) o) h.said
                          ∙ fails (is_so (λ (n : Signature). is_eq (sig_cmp s n))
                          (newest_certification verdicts h.issuer t uid)) h.newest,
                      (
                        fails (is_some st) (ap (λ (o : Option Standing). is_some o) kept),
                        (
                          ap (λ (o : Option Standing). is_so (λ (i : Standing). not i.has) o) kept ∙ fails i.has u1.0,
                          (
                            ap (λ (o : Option Standing). is_so (λ (i : Standing). nat_lt (made_of s) i.created) o) kept
                                ∙ ap (λ (m : ℕ). nat_lt m i.created) made ∙ not_after h.facts.made i.created u2.0,
                            (
                              ap (λ (o : Option Standing). is_so (λ (i : Standing). not (is_after (made_of s) i.end)) o)
                                  kept ∙ ap (λ (m : ℕ). not (is_after m i.end)) made
                                  ∙ fails (is_after h.facts.made i.end) u3.0,
                              (
                                ap (λ (o : Option Standing). is_so (λ (i : Standing). i.hard) o) kept
                                    ∙ fallen i.hard u4.0,
                                (
                                  ap (λ (o : Option Standing). is_so
                                      (λ (i : Standing). not (is_after (made_of s) i.soft)) o) kept
                                      ∙ ap (λ (m : ℕ). not (is_after m i.soft)) made
                                      ∙ fails (is_after h.facts.made i.soft) u4.1,
                                  tt,
                                ),
                              ),
                            ),
                          ),
                        ),
                      ),
                    ),
                  ),
                ),
              ),
            ),
          ),
        ),
      ),
    )
  where
    is_said : (said : Option Verdict) (issuer : Fpr) → good_by said ≡ Some issuer → is_some said ≡ true
    is_said None issuer e = absurd cc
    is_said (Some v) issuer e = refl

    early : (t : ℕ) (s : Signature) → is_live t s ≡ true → nat_lt t (made_of s) ≡ false
    early t s h = by (said_by s) h
      where
        by : (o : Option SigFacts) → is_so (facts_live t) o ≡ true →
            nat_lt t (option_map_or (λ (f : SigFacts). f.made) o 0) ≡ false
        by None h = absurd cc
        by (Some f) h = not_after t f.made (and_parts (nat_le f.made t) (f.lasts == 0 || nat_lt t (f.made + f.lasts))
            h).0
