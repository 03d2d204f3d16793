-- What the reader finds in a file, as it is stated.
use Rattle.dns_masterfile.specs.declared.pieces.Word.{Word as Found}
use Rattle.dns_masterfile.specs.declared.pieces.Word.TheVariants as found
use Rattle.dns_masterfile.specs.declared.pieces.Piece.{Piece as Part}
use Rattle.dns_masterfile.specs.declared.pieces.Piece.TheVariants as part
use Rattle.dns_masterfile.specs.Pieces.{Word, Bare, Quoted, Piece, Gap, Comment, LineEnd, Open, Close, Text}
use Rattle.dns_masterfile.specs.Pieces.{Fault}

abbrev pub stated_word : Found → Word
stated_word (found.Bare text) = Bare text.now
stated_word (found.Quoted text) = Quoted text.now

abbrev pub stated_piece : Part → Piece
stated_piece part.Gap = Gap
stated_piece part.Comment = Comment
stated_piece part.LineEnd = LineEnd
stated_piece part.Opening = Open
stated_piece part.Closing = Close
stated_piece (part.Text w) = Text (stated_word w)
stated_piece part.Fault = Fault
