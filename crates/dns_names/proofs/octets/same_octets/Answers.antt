use Rattle.std.proofs.Common.{arith}
use Rattle.dns_names.proofs.Alike.{octets, last_word, word_apart, word_tells, piece_more}
use Rattle.dns_names.proofs.octets.same_octets.Goals as goal

pub returns-then-word_at : goal.returns-then-word_at
returns-then-word_at c =
    word_apart c.args.octets.now c.args.others.now c.words.at _ _ c.word_at.ensures c.word_at-in-words.ensures c.if-word_at.true

pub words-preserved : goal.words-preserved
words-preserved c =
    let xs = c.args.octets.now in
    let ys = c.args.others.now in
    record {
      within = omega arith;
      same = piece_more xs ys c.words.at 8 c.words.invariant.same
          (word_tells xs ys c.words.at _ _ (omega arith) (omega arith) (octets xs c.type_inv.octets) (octets ys c.type_inv.others) c.word_at.ensures c.word_at-in-words.ensures c.if-word_at.false);
    }

pub returns : goal.returns
returns c =
    let xs = c.args.octets.now in
    let ys = c.args.others.now in
    last_word xs ys c.words.at _ _ _ (omega arith) (omega arith) (omega arith) (octets xs c.type_inv.octets) (octets ys c.type_inv.others) c.words.invariant.same
    c.word_at-2.ensures c.word_at-3.ensures
