-- How many octets of the source a run reads.
use Rattle.std.proofs.Common.{◌≡◌, ℕ, ◌≤◌, ◌^◌, List, [], length, ◌++◌, Option, Some, None, refl, sym, ap, subst, ◌∙◌}
use Rattle.std.proofs.Common.{append_assoc, arith, length-append}
use Rattle.wot_io.specs.Fill.{Took}
use Rattle.wot_io.specs.Source.{Loses, LosesOf}
use Rattle.wot_io.specs.ReaderState.{ReaderState}
use Rattle.wot_io.specs.Filled.{IsAtEnd}
use Rattle.wot_io.specs.Given as given
use Rattle.wot_io.specs.declared.lines.Line.TheVariants.{End}
use Rattle.wot_engine.specs.Source.{HasMost, TakesAtMost, TakesMost}
use Rattle.wot_engine.proofs.Fresh.{fresh}

loses_nothing : (left : Option (List ℕ)) → Loses left left []
loses_nothing None = tt
loses_nothing (Some octets) = record { rest = octets; left_is = refl; parts = refl }

loses_both : (first second third : Option (List ℕ)) (gone more : List ℕ) → Loses first second gone →
    Loses second third more
    → Loses first third (gone ++ more)
loses_both None second third gone more a b = tt
loses_both (Some octets) second third gone more a b =
    let b' : LosesOf a.rest third more = subst (λ (o : Option (List ℕ)). Loses o third more) a.left_is b in
    record {
      rest = b'.rest;
      left_is = b'.left_is;
      parts = a.parts ∙ ap (λ (x : List ℕ). gone ++ x) b'.parts ∙ sym (append_assoc gone more b'.rest);
    }

-- no call
pub took_none : (left : Option (List ℕ)) (taken : ℕ) → Took left taken left taken
took_none left taken = record { gone = []; loses = loses_nothing left; count = omega arith }

-- before the first line
pub took_nothing : (left : Option (List ℕ)) (lines : ReaderState) → lines ≡ fresh → Took left 0 left lines.taken
took_nothing left lines e = record {
  gone = [];
  loses = loses_nothing left;
  count =
      ap (λ (r : ReaderState). r.taken) e;
}

-- one call after another
pub took_both : (first second third : Option (List ℕ)) (low mid high : ℕ) → Took first low second mid →
    Took second mid third high
    → Took first low third high
took_both first second third low mid high a b = record {
  gone = a.gone ++ b.gone;
  loses = loses_both first second third a.gone b.gone a.loses b.loses;
  count = omega (arith, a.count, b.count, length-append a.gone b.gone);
}

-- what was read is within the bound
pub takes_at_most : (first last : Option (List ℕ)) (taken : ℕ) → Took first 0 last taken → taken ≤ 2 ^ 30 →
    TakesAtMost first last
takes_at_most None last taken t le = tt
takes_at_most (Some input) last taken t le = record {
  octets = t.gone;
  taken = record { rest = t.loses.rest; input_is = t.loses.parts; left_is = t.loses.left_is };
  few = omega (arith, t.count, le);
}

-- one more call
pub takes_more : (first second third : Option (List ℕ)) (mid high : ℕ) → Took first 0 second mid →
    Took second mid third high → high ≤ 2 ^ 30
    → TakesAtMost first third
takes_more first second third mid high a b le =
    takes_at_most first third high (took_both first second third 0 mid high a b) le

-- nothing is read
pub takes_nothing : (left : Option (List ℕ)) → TakesAtMost left left
takes_nothing left = takes_at_most left left 0 (record { gone = []; loses = loses_nothing left; count = refl })
    (omega arith)

-- if the limit was reached, the source had that much
pub has_most : (first last : Option (List ℕ)) (taken : ℕ) → Took first 0 last taken → taken ≡ 2 ^ 30 → HasMost first
has_most None last taken t most = tt
has_most (Some input) last taken t most = omega (
  arith,
  t.count,
  most,
  ap length t.loses.parts,
  length-append t.gone t.loses.rest,
)

-- if the limit was reached, that much was read
pub takes_most : (first last : Option (List ℕ)) (taken : ℕ) → Took first 0 last taken → taken ≡ 2 ^ 30 →
    TakesMost first last
takes_most None last taken t most = tt
takes_most (Some input) last taken t most = record {
  octets = t.gone;
  taken = record { rest = t.loses.rest; input_is = t.loses.parts; left_is = t.loses.left_is };
  size = omega (arith, t.count, most);
}

-- at the end nothing is left
pub ends_at : (first left last : Option (List ℕ)) (taken : ℕ) (old new : ReaderState) → Took first 0 left taken →
    given.ReturnsNext End old left new last
    → IsAtEnd first last
ends_at None left last taken old new t e = tt
ends_at (Some input) left last taken old new t e =
    let e' : given.ReturnsNext End old (Some t.loses.rest) new last =
    subst (λ (o : Option (List ℕ)). given.ReturnsNext End old o new last) t.loses.left_is e in
    e'.0.3
