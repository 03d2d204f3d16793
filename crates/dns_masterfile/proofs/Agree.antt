-- What a file means is what is read of it.
use Rattle.std.proofs.Common.{◌≡◌, ℕ, suc, Bool, true, false, List, [], ◌∷◌, Ok, Err, sym, ap, ◌∙◌}
use Rattle.std.specs.Prelude.{Result}
use Rattle.std.specs.List.{AllByRecursion}
use Rattle.dns_names.specs.Name.{Labels}
use Rattle.dns_records.specs.Record.{Record}
use Rattle.dns_masterfile.specs.declared.FileError.{FileError}
use Rattle.dns_masterfile.specs.Pieces.{Piece, Gap, Comment, LineEnd, Open, Close, Text, Fault, pieces_of}
use Rattle.dns_masterfile.specs.Entries.{FileEntry, begun, entries_from, entries_of}
use Rattle.dns_masterfile.specs.Meaning.{Context, at_start, after, Mean, FileMeans}
use Rattle.dns_masterfile.specs.Reading.{read_entries, read_file}
use Rattle.dns_masterfile.specs.Laws.{FileIsRead, FileMeansOnce}
use Rattle.dns_masterfile.proofs.OnlyPieces.{NoFault, only_pieces}
use Rattle.dns_masterfile.proofs.Covered.{are_pieces}
use Rattle.dns_masterfile.proofs.Sound.{entries_mean}
use Rattle.dns_masterfile.proofs.Complete.{entries_read}

abbrev AllWhole : List FileEntry → Type 0
AllWhole entries = AllByRecursion (λ (e : FileEntry). e.whole ≡ true) entries

all_whole : (ctx : Context) (entries : List FileEntry) (records : List Record) → Mean ctx entries records → AllWhole entries
all_whole ctx [] records h = tt
all_whole ctx (e ∷ rest) records (said, more, whole, says, parts, others) = (whole, all_whole (after ctx said) rest more others)

-- a fault makes an entry that is not whole
no_fault : (inside : Bool) (e : FileEntry) (line : ℕ) (ps : List Piece) → AllWhole (entries_from inside e line ps) → NoFault ps
no_fault inside e line [] h = tt
no_fault true e line (LineEnd ∷ ps) h = no_fault true e (suc line) ps h
no_fault false e line (LineEnd ∷ ps) h = no_fault false (begun (suc line) ps) (suc line) ps h.1
no_fault true e line (Open ∷ ps) h = (let broken : false ≡ true = h.0 in absurd cc)
no_fault false e line (Open ∷ ps) h = no_fault true e line ps h
no_fault true e line (Close ∷ ps) h = no_fault false e line ps h
no_fault false e line (Close ∷ ps) h = (let broken : false ≡ true = h.0 in absurd cc)
no_fault inside e line (Text w ∷ ps) h = no_fault inside _ line ps h
no_fault inside e line (Gap ∷ ps) h = no_fault inside e line ps h
no_fault inside e line (Comment ∷ ps) h = no_fault inside e line ps h
no_fault inside e line (Fault ∷ ps) h = (let broken : false ≡ true = h.0 in absurd cc)

-- what a file means is read of it
pub means_is_read : (octets : List ℕ) (origin : Labels) (records : List Record) → FileMeans octets origin records → read_file octets origin ≡ Ok records
means_is_read octets origin records (pieces, are, mean) =
    ap (λ (ps : List Piece). read_entries (at_start origin) (entries_of ps)) (only_pieces pieces octets are).0 ∙ entries_read (at_start origin) (entries_of pieces) records mean

-- and what is read of a file is what it means
pub read_is_meant : (octets : List ℕ) (origin : Labels) (records : List Record) → read_file octets origin ≡ Ok records → FileMeans octets origin records
read_is_meant octets origin records h =
    let mean = entries_mean (at_start origin) (entries_of (pieces_of octets)) records h in
    let whole = all_whole (at_start origin) (entries_of (pieces_of octets)) records mean in
    (pieces_of octets, are_pieces octets (no_fault false (begun 1 (pieces_of octets)) 1 (pieces_of octets) whole), mean)

abbrev read_as : List Record → Result (List Record) (ℕ × FileError)
read_as records = Ok records

ok_same : (xs ys : List Record) → read_as xs ≡ Ok ys → xs ≡ ys
ok_same xs ys h = cc

-- a file means at most one list of records
pub means_one : FileMeansOnce
means_one octets origin xs ys h k = ok_same xs ys (sym (means_is_read octets origin xs h) ∙ means_is_read octets origin ys k)

differ : (records : List Record) (fault : ℕ × FileError) → read_as records ≡ Err fault → ⊥
differ records fault h = absurd cc

-- a file that is refused means nothing
pub refused_means_none : (octets : List ℕ) (origin : Labels) (fault : ℕ × FileError) (records : List Record) → read_file octets origin ≡ Err fault → FileMeans octets origin records → ⊥
refused_means_none octets origin fault records h m = differ records fault (sym (means_is_read octets origin records m) ∙ h)

pub file_is_read : FileIsRead
file_is_read octets origin records = (means_is_read octets origin records, read_is_meant octets origin records)
