-- What each octet of a master file does (RFC 1035 5.1).
use Rattle.std.specs.Prelude.{ℕ, ◌||◌, ◌==◌, nat_lt, if◌then◌else◌}
use Rattle.dns_masterfile.specs.declared.kind.Kind.{Kind}
use Rattle.dns_masterfile.specs.declared.kind.Kind.TheVariants.{LineFeed, Return, Control, Blank, Semicolon}
use Rattle.dns_masterfile.specs.declared.kind.Kind.TheVariants.{Quote, Opening, Closing, Backslash, Plain}

abbrev pub kind : ℕ → Kind
kind c =
    if c == 10 then LineFeed
    else if c == 13 then Return
    else if c == 9 || c == 32 then Blank
    else if nat_lt c 32 || c == 127 then Control
    else if c == 34 then Quote
    else if c == 40 then Opening
    else if c == 41 then Closing
    else if c == 59 then Semicolon
    else if c == 92 then Backslash
    else Plain
