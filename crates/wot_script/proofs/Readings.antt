-- The lines of commands, joined from their fields, are read as these commands.
use Rattle.std.proofs.Common.{◌≡◌, ℕ, true, List, [], ◌∷◌, ◌++◌, Some, refl, ap, ◌∙◌, append-nil}
use Rattle.std.specs.Prelude.{codes}
use Rattle.std.specs.Option.{option_map}
use Rattle.wot_types.specs.Fpr.{fpr_of_digits}
use Rattle.wot_types.specs.ViewName.{is_view_name, view_name_of}
use Rattle.wot_types.specs.declared.fpr.Fpr.{Fpr}
use Rattle.wot_types.specs.declared.name.Name.{Name}
use Rattle.wot_reply_lines.specs.Claims.{claim_of, field_of, labels_of}
use Rattle.wot_reply_lines.specs.declared.claims.ClaimLine.{ClaimLine}
use Rattle.wot_reply_lines.specs.declared.claims.LabelLine.{LabelLine}
use Rattle.wot_fields.specs.Decimal.{positive_up_to}
use Rattle.wot_fields.specs.Fields.{◌>>=◌, cut}
use Rattle.wot_reply_lines.specs.Entry.{entry_of}
use Rattle.wot_reply_lines.specs.Question.{question_of}
use Rattle.wot_reply_lines.specs.declared.question.Question.{Question}
use Rattle.wot_script.specs.Grammar.{about_of, command_for, command_of, other_of, over_of, view_of, watch_of}
use Rattle.wot_fields.specs.Texts.{joined}
use Rattle.wot_fields.specs.Uid.{unescaped}
use Rattle.wot_script.specs.declared.command.Command.{Command}
use Rattle.wot_script.specs.declared.command.Command.TheVariants.{Load, Store, Remove, Ask, Explain, Export}
use Rattle.wot_script.specs.declared.command.Command.TheVariants.{Absence, Check, CursorOver, CursorNext}
use Rattle.wot_script.specs.declared.command.Command.TheVariants.{CursorClose, WatchOn, WatchOff}
use Rattle.wot_script.specs.declared.read.About.{About}
use Rattle.wot_script.specs.declared.read.About.TheVariants.{Asked, Listed, Explained, Missed, Checked, Paced}
use Rattle.wot_script.specs.declared.read.About.TheVariants.{Watched}
use Rattle.wot_fields.specs.StateLine.{state_line_of, spelling as line_text}
use Rattle.wot_fields.specs.declared.state_line.StateLine.{StateLine}
use Rattle.wot_fields.proofs.Spaceless.{Spaceless, cut_spaceless, spaceless_view_name}
use Rattle.wot_fields.proofs.StateLines.{bound, name_reads}

-- a line that sets a part of the state is the command of what it sets
pub set_reads : (line : StateLine) → state_line_of (line_text line) ≡ Some line
    → command_of (line_text line) ≡ Some (command_for line)
unfolding command_of
set_reads line e = rw e refl

pub load_reads : (text : List ℕ) (name : Name) → entry_of text ≡ Some name
    → command_of (joined (codes "load " ∷ text ∷ [])) ≡ Some (Load name)
unfolding command_of other_of state_line_of
load_reads text name e = ap (λ rest. option_map Load (entry_of rest)) (append-nil text) ∙ ap (option_map Load) e

pub store_reads : (digits : List ℕ) (fpr : Fpr) → fpr_of_digits digits ≡ Some fpr
    → command_of (joined (codes "store " ∷ digits ∷ [])) ≡ Some (Store fpr)
unfolding command_of other_of state_line_of
store_reads digits fpr e =
    ap (λ text. option_map Store (fpr_of_digits text)) (append-nil digits) ∙ ap (option_map Store) e

pub drop_reads : (digits : List ℕ) (fpr : Fpr) → fpr_of_digits digits ≡ Some fpr
    → command_of (joined (codes "drop " ∷ digits ∷ [])) ≡ Some (Remove fpr)
unfolding command_of other_of state_line_of
drop_reads digits fpr e =
    ap (λ text. option_map Remove (fpr_of_digits text)) (append-nil digits) ∙ ap (option_map Remove) e

pub export_reads : (digits : List ℕ) (fpr : Fpr) → fpr_of_digits digits ≡ Some fpr
    → command_of (joined (codes "export " ∷ digits ∷ [])) ≡ Some (Export fpr)
unfolding command_of other_of state_line_of
export_reads digits fpr e =
    ap (λ text. option_map Export (fpr_of_digits text)) (append-nil digits) ∙ ap (option_map Export) e

view_reads : (about : About) (name text : List ℕ) (command : Command) → is_view_name name ≡ true
    → about_of about name text ≡ Some command → view_of about (name ++ 32 ∷ text) ≡ Some command
view_reads about name text command h e =
    bound (cut (name ++ 32 ∷ text)) (name, text)
    (λ first. view_name_of first.0 >>= (λ view. about_of about view first.1))
    (cut_spaceless name text (spaceless_view_name name h))
    ∙ bound (view_name_of name) name (λ view. about_of about view text) (name_reads name h)
    ∙ e

pub ask_reads : (name text : List ℕ) (q : Question) → is_view_name name ≡ true → question_of text ≡ Some q
    → command_of (codes "ask " ++ (name ++ 32 ∷ text)) ≡ Some (Ask name q.fpr q.wanted q.uid)
unfolding command_of other_of state_line_of
ask_reads name text q h e =
    view_reads Asked name text (Ask name q.fpr q.wanted q.uid) h
    (ap (option_map (λ (o : Question). Ask name o.fpr o.wanted o.uid)) e)

pub absence_reads : (name text : List ℕ) (q : Question) → is_view_name name ≡ true → question_of text ≡ Some q
    → command_of (codes "absence " ++ (name ++ 32 ∷ text)) ≡ Some (Absence name q.fpr q.wanted q.uid)
unfolding command_of other_of state_line_of
absence_reads name text q h e =
    view_reads Missed name text (Absence name q.fpr q.wanted q.uid) h
    (ap (option_map (λ (o : Question). Absence name o.fpr o.wanted o.uid)) e)

pub list_reads : (name ws : List ℕ) (wanted : ℕ) → is_view_name name ≡ true → positive_up_to 4294967295 ws ≡ Some wanted
    → command_of (joined (codes "list " ∷ name ∷ codes " " ∷ ws ∷ [])) ≡ Some (Command.List name wanted)
unfolding command_of other_of state_line_of
list_reads name ws wanted h e =
    view_reads Listed name (ws ++ []) (Command.List name wanted) h
    (ap (λ text. option_map (Command.List name) (positive_up_to 4294967295 text)) (append-nil ws)
    ∙ ap (option_map (Command.List name)) e)

explained_reads : (name ds us uid : List ℕ) (fpr : Fpr) → Spaceless ds → fpr_of_digits ds ≡ Some fpr
    → unescaped us ≡ Some uid
    → about_of Explained name (ds ++ 32 ∷ us) ≡ Some (Explain name fpr uid)
explained_reads name ds us uid fpr free fpr_is uid_is =
    bound (cut (ds ++ 32 ∷ us)) (ds, us)
    (λ second. fpr_of_digits second.0 >>= (λ f. option_map (Explain name f) (unescaped second.1)))
    (cut_spaceless ds us free)
    ∙ bound (fpr_of_digits ds) fpr (λ f. option_map (Explain name f) (unescaped us)) fpr_is
    ∙ ap (option_map (Explain name fpr)) uid_is

pub explain_reads : (name ds us uid : List ℕ) (fpr : Fpr) → is_view_name name ≡ true → Spaceless ds
    → fpr_of_digits ds ≡ Some fpr → unescaped us ≡ Some uid
    → command_of (joined (codes "explain " ∷ name ∷ codes " " ∷ ds ∷ codes " " ∷ us ∷ [])) ≡ Some (Explain name fpr uid)
unfolding command_of other_of state_line_of
explain_reads name ds us uid fpr h free fpr_is uid_is =
    view_reads Explained name (ds ++ 32 ∷ (us ++ [])) (Explain name fpr uid) h
    (explained_reads name ds (us ++ []) uid fpr free fpr_is (ap unescaped (append-nil us) ∙ uid_is))

checked_reads : (name ds cs ls us uid : List ℕ) (fpr : Fpr) (claims : List ClaimLine) (labels : List LabelLine)
    → Spaceless ds → fpr_of_digits ds ≡ Some fpr → Spaceless cs → field_of claim_of cs ≡ Some claims → Spaceless ls
    → labels_of ls ≡ Some labels → unescaped us ≡ Some uid
    → about_of Checked name (ds ++ 32 ∷ (cs ++ 32 ∷ (ls ++ 32 ∷ us))) ≡ Some (Check name fpr claims labels uid)
checked_reads name ds cs ls us uid fpr claims labels df d cf c lf l u =
    rw (
      cut_spaceless ds (cs ++ 32 ∷ (ls ++ 32 ∷ us)) df,
      d,
      cut_spaceless cs (ls ++ 32 ∷ us) cf,
      c,
      cut_spaceless ls us lf,
      l,
      u,
    ) refl

pub check_reads : (name ds cs ls us uid : List ℕ) (fpr : Fpr) (claims : List ClaimLine) (labels : List LabelLine)
    → is_view_name name ≡ true → Spaceless ds → fpr_of_digits ds ≡ Some fpr
    → Spaceless cs → field_of claim_of cs ≡ Some claims
    → Spaceless ls → labels_of ls ≡ Some labels → unescaped us ≡ Some uid
    → command_of (joined
    (codes "check " ∷ name ∷ codes " " ∷ ds ∷ codes " " ∷ cs ∷ codes " " ∷ ls ∷ codes " " ∷ us ∷ []))
    ≡ Some (Check name fpr claims labels uid)
unfolding command_of other_of state_line_of
check_reads name ds cs ls us uid fpr claims labels h df d cf c lf l u =
    view_reads Checked name (ds ++ 32 ∷ (cs ++ 32 ∷ (ls ++ 32 ∷ (us ++ [])))) (Check name fpr claims labels uid) h
    (checked_reads name ds cs ls (us ++ []) uid fpr claims labels df d cf c lf l (ap unescaped (append-nil us) ∙ u))

over_reads_of : (name view ws : List ℕ) (wanted : ℕ) → is_view_name view ≡ true
    → positive_up_to 4294967295 ws ≡ Some wanted
    → over_of name (view ++ 32 ∷ ws) ≡ Some (CursorOver name view wanted)
unfolding over_of
over_reads_of name view ws wanted h e =
    bound (cut (view ++ 32 ∷ ws)) (view, ws)
    (λ first. view_name_of first.0 >>= (λ v. option_map (CursorOver name v) (positive_up_to 4294967295 first.1)))
    (cut_spaceless view ws (spaceless_view_name view h))
    ∙ bound (view_name_of view) view (λ v. option_map (CursorOver name v) (positive_up_to 4294967295 ws))
    (name_reads view h)
    ∙ ap (option_map (CursorOver name view)) e

paced_reads : (name text : List ℕ) (command : Command) → is_view_name name ≡ true
    → about_of Paced name text ≡ Some command
    → command_of (codes "cursor " ++ (name ++ 32 ∷ text)) ≡ Some command
unfolding command_of other_of state_line_of
paced_reads name text command h e = view_reads Paced name text command h e

over_paced : (name text : List ℕ) → about_of Paced name (codes "over " ++ text) ≡ over_of name text
over_paced name text = refl

pub over_reads : (name view ws : List ℕ) (wanted : ℕ) → is_view_name name ≡ true → is_view_name view ≡ true
    → positive_up_to 4294967295 ws ≡ Some wanted
    → command_of (joined (codes "cursor " ∷ name ∷ codes " over " ∷ view ∷ codes " " ∷ ws ∷ [])) ≡ Some
    (CursorOver name view wanted)
over_reads name view ws wanted h k e =
    paced_reads name (codes "over " ++ (view ++ 32 ∷ (ws ++ []))) (CursorOver name view wanted) h
    (over_paced name (view ++ 32 ∷ (ws ++ []))
    ∙ over_reads_of name view (ws ++ []) wanted k (ap (positive_up_to 4294967295) (append-nil ws) ∙ e))

next_paced : (name digits : List ℕ) (count : ℕ) → positive_up_to 4294967295 digits ≡ Some count
    → about_of Paced name (codes "next " ++ (digits ++ [])) ≡ Some (CursorNext name count)
next_paced name digits count e =
    ap (λ text. option_map (CursorNext name) (positive_up_to 4294967295 text)) (append-nil digits)
    ∙ ap (option_map (CursorNext name)) e

pub next_reads : (name digits : List ℕ) (count : ℕ) → is_view_name name ≡ true
    → positive_up_to 4294967295 digits ≡ Some count
    → command_of (joined (codes "cursor " ∷ name ∷ codes " next " ∷ digits ∷ [])) ≡ Some (CursorNext name count)
next_reads name digits count h e =
    paced_reads name (codes "next " ++ (digits ++ [])) (CursorNext name count) h (next_paced name digits count e)

end_paced : (name : List ℕ) → about_of Paced name (codes "close") ≡ Some (CursorClose name)
end_paced name = refl

pub end_reads : (name : List ℕ) → is_view_name name ≡ true
    → command_of (joined (codes "cursor " ∷ name ∷ codes " close" ∷ [])) ≡ Some (CursorClose name)
end_reads name h = paced_reads name (codes "close") (CursorClose name) h (end_paced name)

watch_reads : (name view text : List ℕ) (q : Question) → is_view_name view ≡ true → question_of text ≡ Some q
    → watch_of name (view ++ 32 ∷ text) ≡ Some (WatchOn name view q.fpr q.wanted q.uid)
unfolding watch_of
watch_reads name view text q h e =
    bound (cut (view ++ 32 ∷ text)) (view, text)
    (λ first. view_name_of first.0 >>=
    (λ v. option_map (λ (o : Question). WatchOn name v o.fpr o.wanted o.uid) (question_of first.1)))
    (cut_spaceless view text (spaceless_view_name view h))
    ∙ bound (view_name_of view) view
    (λ v. option_map (λ (o : Question). WatchOn name v o.fpr o.wanted o.uid) (question_of text)) (name_reads view h)
    ∙ ap (option_map (λ (o : Question). WatchOn name view o.fpr o.wanted o.uid)) e

watched_reads : (name text : List ℕ) (command : Command) → is_view_name name ≡ true
    → about_of Watched name text ≡ Some command
    → command_of (codes "watch " ++ (name ++ 32 ∷ text)) ≡ Some command
unfolding command_of other_of state_line_of
watched_reads name text command h e = view_reads Watched name text command h e

on_watched : (name text : List ℕ) → about_of Watched name (codes "on " ++ text) ≡ watch_of name text
on_watched name text = refl

pub on_reads : (name view text : List ℕ) (q : Question) → is_view_name name ≡ true → is_view_name view ≡ true
    → question_of text ≡ Some q
    → command_of (codes "watch " ++ (name ++ 32 ∷ (codes "on " ++ (view ++ 32 ∷ text)))) ≡ Some
    (WatchOn name view q.fpr q.wanted q.uid)
on_reads name view text q h k e =
    watched_reads name (codes "on " ++ (view ++ 32 ∷ text)) (WatchOn name view q.fpr q.wanted q.uid) h
    (on_watched name (view ++ 32 ∷ text) ∙ watch_reads name view text q k e)

off_watched : (name : List ℕ) → about_of Watched name (codes "off") ≡ Some (WatchOff name)
off_watched name = refl

pub off_reads : (name : List ℕ) → is_view_name name ≡ true
    → command_of (joined (codes "watch " ∷ name ∷ codes " off" ∷ [])) ≡ Some (WatchOff name)
off_reads name h = watched_reads name (codes "off") (WatchOff name) h (off_watched name)
