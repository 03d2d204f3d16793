-- What comes next in a file.
use Rattle.std.specs.Prelude.{◌≡◌, true, false, [], ◌∷◌}
use Rattle.dns_masterfile.specs.declared.scanner.Next.{Next}
use Rattle.dns_masterfile.specs.declared.scanner.Next.TheVariants.{Word, Entry, End, Fault}
use Rattle.dns_masterfile.specs.Left.{Left, no_words, word_before, entry_at}
use Rattle.dns_masterfile.specs.Scan.{stated_word}

-- What is left is that, and what follows it.
abbrev pub IsNext : Left → Next → Type 0
IsNext left (Word w behind) = left ≡ word_before (stated_word w) behind
IsNext left (Entry start behind) =
    left ≡ no_words true (entry_at start.line start.blank behind ∷ behind.behind)
IsNext left End = left ≡ no_words true []
IsNext left Fault = left ≡ no_words false []
