-- A tree as the list of its nodes, each after those that it is made of.
use Rattle.std.specs.Prelude.{◌≡◌, ℕ, zero, suc, true, false, List, [], ◌∷◌, ◌++◌, refl}
use Rattle.std.specs.Coded.{Coded, code_by, coded×, coded_ℕ, coded_list}
use Rattle.std.proofs.Common.{sym, ◌∙◌, ap, append_assoc}
use Rattle.std.proofs.lemmas.List.{append-nil}
use Rattle.wot_pattern.specs.declared.item.Item.{Item}
use Rattle.wot_pattern.specs.Reading.{Atom, exactly, any, start, end, range, Reading}
use Rattle.wot_pattern.specs.Reading as r

pub data Token : Type 0 where
  nothing : Token
  single : Atom → Token
  sequence : Token
  either : Token
  star : Token
  plus : Token
  optional : Token

abbrev pub tokens : Reading → List Token
tokens r.nothing = nothing ∷ []
tokens (r.single a) = single a ∷ []
tokens (r.sequence p q) = tokens p ++ (tokens q ++ sequence ∷ [])
tokens (r.either p q) = tokens p ++ (tokens q ++ either ∷ [])
tokens (r.star p) = tokens p ++ star ∷ []
tokens (r.plus p) = tokens p ++ plus ∷ []
tokens (r.optional p) = tokens p ++ optional ∷ []

-- the trees that stand ready, the last one first, after one more node
abbrev pub grown : Token → List Reading → List Reading
grown nothing ready = r.nothing ∷ ready
grown (single a) ready = r.single a ∷ ready
grown sequence (q ∷ p ∷ ready) = r.sequence p q ∷ ready
grown either (q ∷ p ∷ ready) = r.either p q ∷ ready
grown star (p ∷ ready) = r.star p ∷ ready
grown plus (p ∷ ready) = r.plus p ∷ ready
grown optional (p ∷ ready) = r.optional p ∷ ready
grown _ ready = ready

abbrev pub all_grown : List Token → List Reading → List Reading
all_grown [] ready = ready
all_grown (t ∷ ts) ready = all_grown ts (grown t ready)

abbrev pub last_or_nothing : List Reading → Reading
last_or_nothing [] = r.nothing
last_or_nothing (x ∷ ready) = x

-- the tree whose last node is the list's last one
abbrev pub tree : List Token → Reading
tree ts = last_or_nothing (all_grown ts [])

pub all_grown-tokens : (x : Reading) (ts : List Token) (ready : List Reading)
    → all_grown (tokens x ++ ts) ready ≡ all_grown ts (x ∷ ready)
all_grown-tokens r.nothing ts ready = refl
all_grown-tokens (r.single a) ts ready = refl
all_grown-tokens (r.sequence p q) ts ready =
    ap (λ l. all_grown l ready)
    (append_assoc (tokens p) (tokens q ++ sequence ∷ []) ts ∙ ap (λ l. tokens p ++ l)
    (append_assoc (tokens q) (sequence ∷ []) ts))
    ∙ all_grown-tokens p (tokens q ++ sequence ∷ ts) ready ∙ all_grown-tokens q (sequence ∷ ts) (p ∷ ready)
all_grown-tokens (r.either p q) ts ready =
    ap (λ l. all_grown l ready)
    (append_assoc (tokens p) (tokens q ++ either ∷ []) ts ∙ ap (λ l. tokens p ++ l)
    (append_assoc (tokens q) (either ∷ []) ts))
    ∙ all_grown-tokens p (tokens q ++ either ∷ ts) ready ∙ all_grown-tokens q (either ∷ ts) (p ∷ ready)
all_grown-tokens (r.star p) ts ready =
    ap (λ l. all_grown l ready) (append_assoc (tokens p) (star ∷ []) ts) ∙ all_grown-tokens p (star ∷ ts) ready
all_grown-tokens (r.plus p) ts ready =
    ap (λ l. all_grown l ready) (append_assoc (tokens p) (plus ∷ []) ts) ∙ all_grown-tokens p (plus ∷ ts) ready
all_grown-tokens (r.optional p) ts ready =
    ap (λ l. all_grown l ready) (append_assoc (tokens p) (optional ∷ []) ts) ∙ all_grown-tokens p (optional ∷ ts) ready

pub tree-tokens : (x : Reading) → tree (tokens x) ≡ x
tree-tokens x =
    ap last_or_nothing (ap (λ l. all_grown l []) (sym (append-nil (tokens x))) ∙ all_grown-tokens x [] [])

-- What distinguishes two trees: a number for the kind of each node, a character, and the items of a range.
abbrev pub Numbers : Type 0
Numbers = ℕ × (ℕ × List Item)

abbrev pub numbers : Token → Numbers
numbers nothing = (0, (0, []))
numbers (single (exactly c)) = (1, (c, []))
numbers (single any) = (2, (0, []))
numbers (single start) = (3, (0, []))
numbers (single end) = (4, (0, []))
numbers (single (range false items)) = (5, (0, items))
numbers (single (range true items)) = (5, (1, items))
numbers sequence = (6, (0, []))
numbers either = (7, (0, []))
numbers star = (8, (0, []))
numbers plus = (9, (0, []))
numbers optional = (10, (0, []))

abbrev pub some_range : ℕ → List Item → Token
some_range zero items = single (range false items)
some_range (suc n) items = single (range true items)

abbrev pub token : ℕ → ℕ → List Item → Token
token (suc zero) c items = single (exactly c)
token (suc (suc zero)) c items = single any
token (suc (suc (suc zero))) c items = single start
token (suc (suc (suc (suc zero)))) c items = single end
token (suc (suc (suc (suc (suc zero))))) c items = some_range c items
token (suc (suc (suc (suc (suc (suc zero)))))) c items = sequence
token (suc (suc (suc (suc (suc (suc (suc zero))))))) c items = either
token (suc (suc (suc (suc (suc (suc (suc (suc zero)))))))) c items = star
token (suc (suc (suc (suc (suc (suc (suc (suc (suc zero))))))))) c items = plus
token (suc (suc (suc (suc (suc (suc (suc (suc (suc (suc n)))))))))) c items = optional
token _ c items = nothing

pub token-numbers : (t : Token) → token (numbers t).0 (numbers t).1.0 (numbers t).1.1 ≡ t
token-numbers nothing = refl
token-numbers (single (exactly c)) = refl
token-numbers (single any) = refl
token-numbers (single start) = refl
token-numbers (single end) = refl
token-numbers (single (range false items)) = refl
token-numbers (single (range true items)) = refl
token-numbers sequence = refl
token-numbers either = refl
token-numbers star = refl
token-numbers plus = refl
token-numbers optional = refl

abbrev pub item_code : Coded Item
item_code =
    code_by (ℕ × ℕ) (coded× coded_ℕ coded_ℕ) (λ x. (x.from, x.to)) (λ p. record { from = p.0; to = p.1 }) (λ _. refl)

abbrev pub token_code : Coded Token
token_code =
    code_by Numbers (coded× coded_ℕ (coded× coded_ℕ (coded_list item_code))) numbers
    (λ n. token n.0 n.1.0 n.1.1) token-numbers

abbrev pub reading_code : Coded Reading
reading_code = code_by (List Token) (coded_list token_code) tokens tree tree-tokens
