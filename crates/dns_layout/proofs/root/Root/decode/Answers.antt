use Rattle.std.proofs.Common.{◌∙◌, sym, ap, subst, arith, ℕ, List, inl, inr, Ok, drop, ◌≡◌}
use Rattle.byteorder.specs.Numbers.{big_from-take}
use Rattle.dns_layout.specs.Sector.{root_tag_in, bank_open, snapshot_length, snapshot_room, journal_room}
use Rattle.dns_layout.proofs.Roots.{same_root}
use Rattle.dns_layout.proofs.root.Root.decode.Goals as goal

pub returns-clause-says : goal.returns-clause-says
unfolding root_tag_in bank_open snapshot_length snapshot_room journal_room
returns-clause-says c =
    let says = c.in_ok-numbers.ensures.says in
    record {
      tagged = says.tagged ∙ c.tag_of.ensures;
      opened_is = says.opened_is;
      base_is = says.version_is;
      bank_is = says.count_is ∙ c.in-Some.ensures;
      bank_open_is = sym (c.read_u64.ensures ∙ big_from-take 0 8 488 (drop 24 c.args.sector.now) (omega arith));
      snapshot_length_is = sym (c.read_u64-2.ensures ∙ big_from-take 0 8 480 (drop 32 c.args.sector.now) (omega arith));
      snapshot_room_is = sym (c.read_u32.ensures ∙ big_from-take 0 4 472 (drop 40 c.args.sector.now) (omega arith));
      journal_room_is = sym (c.read_u32-2.ensures ∙ big_from-take 0 4 468 (drop 44 c.args.sector.now) (omega arith));
      clear_is = c.in-Some-read_clear.ensures;
      apex_is = sym c.apex_field.ensures ∙ c.in-Some-read.ensures.found.1;
      plain = c.in-Some-read.ensures.found.0;
    }

pub returns-clause-only : goal.returns-clause-only
returns-clause-only c = λ root says.
    ap Ok (same_root c.args.format c.args.sector.now _ root (returns-clause-says c) says (c.in-Some-read.ensures.only root.apex says.plain (c.apex_field.ensures ∙ says.apex_is)))
