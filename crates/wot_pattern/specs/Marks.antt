-- What a character means where an atom or an operator may begin.
use Rattle.std.specs.Prelude.{ℕ, ◌==◌, if◌then◌else◌}
use Rattle.wot_pattern.specs.declared.mark.Mark.{Mark}
use Rattle.wot_pattern.specs.declared.mark.Mark.TheVariants.{Escape, Bracket, Open, Close, Bar, Any, Start, End, Star}
use Rattle.wot_pattern.specs.declared.mark.Mark.TheVariants.{Plus, Optional, Plain}

-- the eleven characters with a meaning of their own; every other one is plain
abbrev pub mark_of : ℕ → Mark
mark_of c =
    if c == 92 then Escape  -- \
    else if c == 91 then Bracket  -- [
    else if c == 40 then Open  -- (
    else if c == 41 then Close  -- )
    else if c == 124 then Bar  -- |
    else if c == 46 then Any  -- .
    else if c == 94 then Start  -- ^
    else if c == 36 then End  -- $
    else if c == 42 then Star  -- *
    else if c == 43 then Plus  -- +
    else if c == 63 then Optional  -- ?
    else Plain
