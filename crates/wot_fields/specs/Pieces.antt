-- The pieces of printed text.
use Rattle.std.specs.Prelude.{ℕ, List}
use Rattle.std.specs.Fmt.{decimal}
use Rattle.std.specs.List.{flat_map}
use Rattle.hex.specs.Hex.{encode_lower}
use Rattle.wot_types.specs.Fpr.{digits_of}
use Rattle.wot_types.specs.SigNumber.{number_digits}
use Rattle.wot_fields.specs.Uid.{escaped}
use Rattle.wot_fields.specs.declared.piece.Piece.{Piece}
use Rattle.wot_fields.specs.declared.piece.Piece.TheVariants.{Text, Decimal, Key, Signature, Hex, Uid}

-- the text of a piece
abbrev pub piece_text : Piece → List ℕ
piece_text (Text text) = text.now
piece_text (Decimal number) = decimal number
piece_text (Key fpr) = digits_of fpr.now
piece_text (Signature number) = number_digits number.now
piece_text (Hex octets) = encode_lower octets.now
piece_text (Uid octets) = escaped octets.now

-- the text of pieces, one after another
abbrev pub pieces_text : List Piece → List ℕ
pieces_text pieces = flat_map piece_text pieces
