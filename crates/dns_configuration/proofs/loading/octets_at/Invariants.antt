use Rattle.std.proofs.Common.{◌≡◌, drop}
use Rattle.dns_configuration.specs.Files.{octets_at}
use Rattle.dns_configuration.proofs.loading.octets_at.Given as goal

abbrev pub invariant-loop-file : goal.invariant-loop-file
invariant-loop-file l = octets_at (drop l.file-index l.files) l.path ≡ octets_at l.files l.path
