-- The lines of commands have no line feed, and aren't too long. wot_fields has those that set a part of the state.
use Rattle.std.proofs.Common.{◌≡◌, ℕ, ◌+◌, ◌*◌, ◌≤◌, true, List, [], ◌∷◌, length, refl, arith}
use Rattle.std.specs.Prelude.{codes}
use Rattle.wot_types.specs.declared.fpr.Fpr.{Fpr}
use Rattle.wot_types.specs.declared.name.Name.{Name}
use Rattle.wot_fields.specs.Texts.{joined}
use Rattle.wot_fields.specs.Uid.{escaped}
use Rattle.wot_reply_lines.specs.Claims.{most_paths}
use Rattle.wot_reply_lines.specs.declared.claims.ClaimLine.{ClaimLine}
use Rattle.wot_reply_lines.specs.declared.claims.LabelLine.{LabelLine}
use Rattle.wot_script.specs.Spelling.{IsLineFor, most_octets}
use Rattle.wot_script.specs.declared.command.Command.{Command}
use Rattle.wot_script.specs.declared.command.Command.TheVariants.{Load, Store, Remove, Ask, Explain, Export, Absence}
use Rattle.wot_script.specs.declared.command.Command.TheVariants.{Check, CursorOver, CursorNext, CursorClose, WatchOn}
use Rattle.wot_script.specs.declared.command.Command.TheVariants.{WatchOff}
use Rattle.wot_fields.proofs.LineParts.{AreDigits, IsName, IsNumeral, feedless_escaped, length-escaped, one_line, word}
use Rattle.wot_fields.proofs.Spaceless.{Lacks, lacks_test}

pub load_line : (name : Name) (text : List ℕ) → Lacks 10 text → length text ≤ 64
    → IsLineFor (Load name) (joined (codes "load " ∷ text ∷ []))
unfolding lacks_test
load_line name text free size =
    one_line (most_octets (Load name)) 108 (codes "oad ") (text ∷ []) refl (λ e. omega arith) (free, tt) (omega (arith, size))

pub store_line : (fpr : Fpr) (ds : List ℕ) → AreDigits ds → IsLineFor (Store fpr) (joined (codes "store " ∷ ds ∷ []))
unfolding lacks_test
store_line fpr ds digits =
    one_line (most_octets (Store fpr)) 115 (codes "tore ") (ds ∷ []) refl (λ e. omega arith) (digits.free, tt)
    (omega (arith, digits.size))

pub remove_line : (fpr : Fpr) (ds : List ℕ) → AreDigits ds → IsLineFor (Remove fpr) (joined (codes "drop " ∷ ds ∷ []))
unfolding lacks_test
remove_line fpr ds digits =
    one_line (most_octets (Remove fpr)) 100 (codes "rop ") (ds ∷ []) refl (λ e. omega arith) (digits.free, tt)
    (omega (arith, digits.size))

pub export_line : (fpr : Fpr) (ds : List ℕ) → AreDigits ds → IsLineFor (Export fpr) (joined (codes "export " ∷ ds ∷ []))
unfolding lacks_test
export_line fpr ds digits =
    one_line (most_octets (Export fpr)) 101 (codes "xport ") (ds ∷ []) refl (λ e. omega arith) (digits.free, tt)
    (omega (arith, digits.size))

-- a question from a view, after a short word
asking_line : (command : Command) (first : ℕ) (prefix view uid ds ws : List ℕ) → lacks_test 10 (first ∷ prefix) ≡ true
    → (first ≡ 35 → ⊥) → length prefix ≤ 7 → 128 + 4 * length uid ≤ most_octets command
    → IsName view → AreDigits ds → IsNumeral ws
    → IsLineFor command
    (joined ((first ∷ prefix) ∷ view ∷ codes " " ∷ ds ∷ codes " " ∷ ws ∷ codes " " ∷ escaped uid ∷ []))
unfolding lacks_test
asking_line command first prefix view uid ds ws fine apart short most name digits number =
    one_line (most_octets command) first prefix (view ∷ codes " " ∷ ds ∷ codes " " ∷ ws ∷ codes " " ∷ escaped uid ∷ []) fine apart (
      name.free,
      (
        word (codes " ") refl,
        (digits.free, (word (codes " ") refl, (number.free, (word (codes " ") refl, (feedless_escaped uid, tt))))),
      ),
    )
    (omega (arith, short, most, name.size, digits.size, number.size, length-escaped uid))

pub ask_line : (view : List ℕ) (fpr : Fpr) (wanted : ℕ) (uid ds ws : List ℕ) → IsName view → AreDigits ds → IsNumeral ws
    → IsLineFor (Ask view fpr wanted uid)
    (joined (codes "ask " ∷ view ∷ codes " " ∷ ds ∷ codes " " ∷ ws ∷ codes " " ∷ escaped uid ∷ []))
unfolding lacks_test
ask_line view fpr wanted uid ds ws name digits number =
    asking_line (Ask view fpr wanted uid) 97 (codes "sk ") view uid ds ws refl (λ e. omega arith) (omega arith)
    (omega arith) name digits number

pub absence_line : (view : List ℕ) (fpr : Fpr) (wanted : ℕ) (uid ds ws : List ℕ) → IsName view → AreDigits ds
    → IsNumeral ws
    → IsLineFor (Absence view fpr wanted uid)
    (joined (codes "absence " ∷ view ∷ codes " " ∷ ds ∷ codes " " ∷ ws ∷ codes " " ∷ escaped uid ∷ []))
unfolding lacks_test
absence_line view fpr wanted uid ds ws name digits number =
    asking_line (Absence view fpr wanted uid) 97 (codes "bsence ") view uid ds ws refl (λ e. omega arith) (omega arith)
    (omega arith)
    name digits number

pub list_line : (view : List ℕ) (wanted : ℕ) (ws : List ℕ) → IsName view → IsNumeral ws
    → IsLineFor (Command.List view wanted) (joined (codes "list " ∷ view ∷ codes " " ∷ ws ∷ []))
unfolding lacks_test
list_line view wanted ws name number =
    one_line (most_octets (Command.List view wanted)) 108 (codes "ist ") (view ∷ codes " " ∷ ws ∷ []) refl (λ e. omega arith)
    (name.free, (word (codes " ") refl, (number.free, tt))) (omega (arith, name.size, number.size))

pub explain_line : (view : List ℕ) (fpr : Fpr) (uid ds : List ℕ) → IsName view → AreDigits ds
    → IsLineFor (Explain view fpr uid)
    (joined (codes "explain " ∷ view ∷ codes " " ∷ ds ∷ codes " " ∷ escaped uid ∷ []))
unfolding lacks_test
explain_line view fpr uid ds name digits =
    one_line (most_octets (Explain view fpr uid)) 101 (codes "xplain ") (view ∷ codes " " ∷ ds ∷ codes " " ∷ escaped uid ∷ []) refl
    (λ e. omega arith)
    (name.free, (word (codes " ") refl, (digits.free, (word (codes " ") refl, (feedless_escaped uid, tt)))))
    (omega (arith, name.size, digits.size, length-escaped uid))

pub check_line : (view : List ℕ) (fpr : Fpr) (claims : List ClaimLine) (labels : List LabelLine) (uid ds cs ls : List ℕ)
    → IsName view
    → AreDigits ds → Lacks 10 cs → length cs ≤ 1 + most_paths claims → Lacks 10 ls → length ls ≤ 1 + 128 * length labels
    → IsLineFor (Check view fpr claims labels uid)
    (joined (codes "check " ∷ view ∷ codes " " ∷ ds ∷ codes " " ∷ cs ∷ codes " " ∷ ls ∷ codes " " ∷ escaped uid ∷ []))
unfolding lacks_test
check_line view fpr claims labels uid ds cs ls name digits cf c lf l =
    one_line (most_octets (Check view fpr claims labels uid)) 99 (codes "heck ")
    (view ∷ codes " " ∷ ds ∷ codes " " ∷ cs ∷ codes " " ∷ ls ∷ codes " " ∷ escaped uid ∷ []) refl (λ e. omega arith) (
      name.free,
      (
        word (codes " ") refl,
        (
          digits.free,
          (
            word (codes " ") refl,
            (
              cf,
              (
                word (codes " ") refl,
                (
                  lf,
                  (word (codes " ") refl, (feedless_escaped uid, tt)),
                ),
              ),
            ),
          ),
        ),
      ),
    )
    (omega (arith, name.size, digits.size, c, l, length-escaped uid))

pub over_line : (name view : List ℕ) (wanted : ℕ) (ws : List ℕ) → IsName name → IsName view → IsNumeral ws
    → IsLineFor (CursorOver name view wanted)
    (joined (codes "cursor " ∷ name ∷ codes " over " ∷ view ∷ codes " " ∷ ws ∷ []))
unfolding lacks_test
over_line name view wanted ws first second number =
    one_line (most_octets (CursorOver name view wanted)) 99 (codes "ursor ") (name ∷ codes " over " ∷ view ∷ codes " " ∷ ws ∷ []) refl
    (λ e. omega arith)
    (first.free, (word (codes " over ") refl, (second.free, (word (codes " ") refl, (number.free, tt)))))
    (omega (arith, first.size, second.size, number.size))

pub next_line : (name : List ℕ) (count : ℕ) (ns : List ℕ) → IsName name → IsNumeral ns
    → IsLineFor (CursorNext name count) (joined (codes "cursor " ∷ name ∷ codes " next " ∷ ns ∷ []))
unfolding lacks_test
next_line name count ns first number =
    one_line (most_octets (CursorNext name count)) 99 (codes "ursor ") (name ∷ codes " next " ∷ ns ∷ []) refl (λ e. omega arith)
    (first.free, (word (codes " next ") refl, (number.free, tt))) (omega (arith, first.size, number.size))

pub end_line : (name : List ℕ) → IsName name
    → IsLineFor (CursorClose name) (joined (codes "cursor " ∷ name ∷ codes " close" ∷ []))
unfolding lacks_test
end_line name first =
    one_line (most_octets (CursorClose name)) 99 (codes "ursor ") (name ∷ codes " close" ∷ []) refl (λ e. omega arith)
    (first.free, (word (codes " close") refl, tt)) (omega (arith, first.size))

pub on_line : (name view : List ℕ) (fpr : Fpr) (wanted : ℕ) (uid ds ws : List ℕ) → IsName name → IsName view
    → AreDigits ds → IsNumeral ws
    → IsLineFor (WatchOn name view fpr wanted uid)
    (joined (codes "watch " ∷ name ∷ codes " on " ∷ view ∷ codes " " ∷ ds ∷ codes " " ∷ ws ∷ codes " " ∷ escaped
    uid ∷ []))
unfolding lacks_test
on_line name view fpr wanted uid ds ws first second digits number =
    one_line (most_octets (WatchOn name view fpr wanted uid)) 119 (codes "atch ")
    (name ∷ codes " on " ∷ view ∷ codes " " ∷ ds ∷ codes " " ∷ ws ∷ codes " " ∷ escaped uid ∷ []) refl
    (λ e. omega arith) (
      first.free,
      (
        word (codes " on ") refl,
        (
          second.free,
          (
            word (codes " ") refl,
            (
              digits.free,
              (
                word (codes " ") refl,
                (number.free, (word (codes " ") refl, (feedless_escaped uid, tt))),
              ),
            ),
          ),
        ),
      ),
    )
    (omega (arith, first.size, second.size, digits.size, number.size, length-escaped uid))

pub off_line : (name : List ℕ) → IsName name
    → IsLineFor (WatchOff name) (joined (codes "watch " ∷ name ∷ codes " off" ∷ []))
unfolding lacks_test
off_line name first =
    one_line (most_octets (WatchOff name)) 119 (codes "atch ") (name ∷ codes " off" ∷ []) refl (λ e. omega arith)
    (first.free, (word (codes " off") refl, tt)) (omega (arith, first.size))
