use Rattle.dns_primary.proofs.primary.Primary.lend.Goals as goal

pub returns-clause-state : goal.returns-clause-state
returns-clause-state g c = record {
  kept = λ m kept. record {
    zones_are = kept.zones_are;
    settings_are = kept.settings_are;
    waiting_are = kept.waiting_are;
    connections_are = kept.connections_are;
    transfers_are = kept.transfers_are;
    as_many = kept.as_many;
  };
  stepped = λ m event next effects s. record {
    fails = s.fails;
    failed = s.failed;
    any_moment = s.any_moment;
    honest = s.honest;
    next = s.next;
    stated = s.stated;
    is = s.is;
    effects_are = s.effects_are;
    kept = s.kept;
  };
  led = λ m event before effects s. record {
    fails = s.fails;
    failed = s.failed;
    any_moment = s.any_moment;
    honest = s.honest;
    next = s.next;
    stated = s.stated;
    is = s.is;
    effects_are = s.effects_are;
    kept = record {
      zones_are = s.kept.zones_are;
      settings_are = s.kept.settings_are;
      waiting_are = s.kept.waiting_are;
      connections_are = s.kept.connections_are;
      transfers_are = s.kept.transfers_are;
      as_many = s.kept.as_many;
    };
  };
}
