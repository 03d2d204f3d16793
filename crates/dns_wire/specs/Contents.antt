-- What the contents of a message say.
use Rattle.dns_wire.specs.Text.{Reply}
use Rattle.dns_wire.specs.Reply.{stated}
use Rattle.dns_wire.specs.declared.builder.Contents.{Contents}

-- The records that were put in are in the answer.
abbrev pub said : Contents → Reply
said c = record (stated c.head) { answer = c.answer.items }
