-- Lines that are appended one by one.
use Rattle.std.proofs.Common.{◌≡◌, ℕ, ◌≤◌, List, [], ◌∷◌, ◌++◌, map, refl, sym, ap, subst, ◌∙◌, append_assoc, arith}
use Rattle.std.specs.List.{AllByRecursion}
use Rattle.std.proofs.lemmas.Grind.{flat_map-append}
use Rattle.std.proofs.lemmas.List.{append-nil}
use Rattle.wot_fields.specs.StateLine.{IsPrinted, most_octets}
use Rattle.wot_fields.specs.declared.state_line.StateLine.{StateLine}
use Rattle.wot_types.specs.declared.fpr.Fpr.{Fpr}
use Rattle.wot_verdict.specs.Verdicts as verdicts
use Rattle.wot_component.specs.Certificate.{Certificate}
use Rattle.wot_component.specs.Text.{size_of}
use Rattle.wot_keyring_spec.specs.declared.kept.Kept.{Kept}
use Rattle.wot_keyring_spec.specs.Keyring.{Entries, Keyring, stripped}
use Rattle.wot_keyring_spec.specs.Held.{held_of}
use Rattle.wot_keyring_spec.specs.Kept.{AreSized}
use Rattle.wot_keyring.specs.Dump.{AreLines, IsLine, commands_of, import_of, command_line_of, lines_of, setting_of}
use Rattle.wot_keyring.specs.Dump.{text_import}

-- a printed line that is short
pub is_line : (line : StateLine) → IsPrinted line → most_octets line ≤ 16777216 → IsLine line
is_line line printed short = record {
  no_feed = printed.one_line.no_feed;
  no_comment = printed.one_line.no_comment;
  short = omega (arith, printed.one_line.short, short);
  fits = printed.one_line.short;
  read = printed.read;
}

-- The lines of all these commands except the rest were appended.
pub record PutSoFar (before now : List ℕ) (all rest : List StateLine) : Type 0 where
  pub made : List ℕ
  pub text : now ≡ before ++ made
  pub left : made ++ lines_of rest ≡ lines_of all
  pub lined : AreLines rest → AreLines all

-- nothing was appended
pub none_put : (before : List ℕ) (all rest : List StateLine) → rest ≡ all → PutSoFar before before all rest
none_put before all rest same = record {
  made = [];
  text = sym (append-nil before);
  left = ap lines_of same;
  lined = λ h. subst AreLines same h;
}

pub all_put : (before now : List ℕ) (all rest : List StateLine) → PutSoFar before now all rest → rest ≡ [] →
    now ≡ before ++ lines_of all
all_put before now all rest so_far none =
    so_far.text
    ∙ ap (λ text. before ++ text)
    (sym (append-nil so_far.made) ∙ ap (λ cs. so_far.made ++ lines_of cs) (sym none) ∙ so_far.left)

pub all_lined : (before now : List ℕ) (all rest : List StateLine) → PutSoFar before now all rest → rest ≡ [] →
    AreLines all
all_lined before now all rest so_far none = so_far.lined (subst AreLines (sym none) tt)

pub one_put : (before now next : List ℕ) (all : List StateLine) (c : StateLine) (rest : List StateLine) →
    PutSoFar before now all (c ∷ rest)
    → next ≡ now ++ command_line_of c → IsLine c → PutSoFar before next all rest
one_put before now next all c rest so_far added line = record {
  made = so_far.made ++ command_line_of c;
  text = added ∙ ap (λ text. text ++ command_line_of c) so_far.text ∙ append_assoc before so_far.made
      (command_line_of c);
  left = append_assoc so_far.made (command_line_of c) (lines_of rest) ∙ so_far.left;
  lined = λ h. so_far.lined (line, h);
}

-- ---- the lines of certificates and of verdicts

abbrev pub cert_list : Entries → List Certificate
cert_list es = map (λ (e : Fpr × Kept). e.1.cert) es

pub sizes_of : (limit : ℕ) (es : Entries) → AreSized limit es → AllByRecursion (λ (c : Certificate). size_of c ≤ limit)
    (cert_list es)
sizes_of limit [] sized = tt
sizes_of limit (e ∷ es) sized = (sized.0, sizes_of limit es sized.1)

imports_of : (es : Entries) → map text_import (cert_list es) ≡ map import_of (stripped es)
imports_of [] = refl
imports_of (e ∷ es) = ap (λ (rest : List StateLine). text_import e.1.cert ∷ rest) (imports_of es)

lines-append : (cs ds : List StateLine) → lines_of (cs ++ ds) ≡ lines_of cs ++ lines_of ds
lines-append cs ds = flat_map-append command_line_of cs ds

both_lines : (cs ds : List StateLine) → AreLines cs → AreLines ds → AreLines (cs ++ ds)
both_lines [] ds h k = k
both_lines (c ∷ cs) ds h k = (h.0, both_lines cs ds h.1 k)

module _ (k : Keyring) (certs : List Certificate) (said : verdicts.Entries) (listed : certs ≡ cert_list k.certs)
    (same : said ≡ k.verdicts) where
  imports_are : map text_import certs ≡ map import_of (stripped k.certs)
  imports_are = ap (map text_import) listed ∙ imports_of k.certs

  settings_are : map setting_of said ≡ map setting_of k.verdicts
  settings_are = ap (map setting_of) same

  pub dumped : (before mid now : List ℕ) → mid ≡ before ++ lines_of (map text_import certs) →
      now ≡ mid ++ lines_of (map setting_of said)
      → now ≡ before ++ lines_of (commands_of (held_of k))
  dumped before mid now first last =
      let Both : List StateLine → List StateLine → List ℕ = λ cs ds. before ++ (lines_of cs ++ lines_of ds) in
      last
      ∙ ap (λ text. text ++ lines_of (map setting_of said)) first
      ∙ append_assoc before (lines_of (map text_import certs)) (lines_of (map setting_of said))
      ∙ ap (λ cs. Both cs (map setting_of said)) imports_are
      ∙ ap (Both (map import_of (stripped k.certs))) settings_are
      ∙ ap (λ text. before ++ text) (sym (lines-append (map import_of (stripped k.certs)) (map setting_of k.verdicts)))

  pub dumped_lines : AreLines (map text_import certs) → AreLines (map setting_of said) →
      AreLines (commands_of (held_of k))
  dumped_lines first last =
      both_lines (map import_of (stripped k.certs)) (map setting_of k.verdicts) (subst AreLines imports_are first)
      (subst AreLines settings_are last)
