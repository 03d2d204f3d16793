use Rattle.std.proofs.Common.{◌≡◌, ℕ, inl, refl}
use Rattle.std.specs.Prelude.{◌⊎◌}
use Rattle.dns_configuration.proofs.Told.{unwrapped}
use Rattle.dns_primary.specs.Keeps.{IsKept}
use Rattle.dns_service.specs.Log.{zone_lines}
use Rattle.dns_service.specs.ServedTurns.{HasTurned, IsLedTo}
use Rattle.dns_service.specs.Telling.{AreTurnsTold, telling_of, texts_of}
use Rattle.dns_service.proofs.server.PrimaryServableServiceStreams.serve_as.Goals as goal

pub returns-clause-ended : goal.returns-clause-ended
returns-clause-ended g c =
    let before = texts_of g.O.Write.contents g.E.Write.contents g.W.Write.contents c.args.streams.now in
    let after = texts_of g.O.Write.contents g.E.Write.contents g.W.Write.contents c.serve_primary.new.streams in
    let service = c.args.service.now in
    unwrapped (λ (status : ℕ). (status ≡ 3)
    ⊎ ((status ≡ 0) × HasTurned service.turns (λ turns m. AreTurnsTold (telling_of service) (zone_lines service.origins.now m.zones) m turns before after) (λ m. IsKept c.args.self.now m) (IsLedTo c.args.self.now c.serve_primary.new.primary)))
    c.serve_primary.result c.unwrap_or.result c.unwrap_or.ensures c.serve_primary.ensures.ended (inl refl)
