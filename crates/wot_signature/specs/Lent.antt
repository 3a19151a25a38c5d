-- What the code borrows from a body.
use Rattle.std.specs.Prelude.{◌≡◌, Option, Some, None, MatchOption}
use Rattle.wot_signature.specs.declared.parts.BodyParts.{BodyParts as LentParts}
use Rattle.wot_signature.specs.declared.read_body.ReadBody.{ReadBody as LentBody}
use Rattle.wot_signature.specs.Body.{BodyParts}
use Rattle.wot_signature.specs.Signature.{ReadBody}

abbrev pub lent_parts : LentParts → BodyParts
lent_parts p = record { kind = p.kind; hash = p.hash; hashed = p.hashed.now; unhashed = p.unhashed.now }

abbrev pub lent_body : LentBody → ReadBody
lent_body r = record { kind = r.kind; hash = r.hash; hashed = r.hashed; unhashed = r.unhashed.now }

-- The code returns what is defined, seen as what it borrows, or both are none.
abbrev pub Lends : {A B : Type 0} → Option B → Option A → (A → B) → Type 0
Lends wanted result lent = MatchOption result (wanted ≡ None) (λ x. wanted ≡ Some (lent x))
