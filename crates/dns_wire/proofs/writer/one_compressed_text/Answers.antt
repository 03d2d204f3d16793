use Rattle.dns_wire.proofs.ReadsBack.{reads_back}
use Rattle.dns_wire.specs.Compressed.{OccursAt}
use Rattle.dns_wire.proofs.Written.{compressed_written}
use Rattle.dns_wire.proofs.Table.{table_first, table_next}
use Rattle.dns_wire.proofs.CompressedOnce.{compressed_once}
use Rattle.dns_wire.proofs.TextCompressed.{text_compressed}
use Rattle.dns_wire.proofs.TextPut.{text_longer}
use Rattle.dns_wire.proofs.writer.one_compressed_text.Goals as goal

pub returns-clause-once : goal.returns-clause-once
returns-clause-once c = λ t u r h k. compressed_once t u r h k

pub returns-clause-written : goal.returns-clause-written
returns-clause-written c = λ earlier places name h. compressed_written (OccursAt earlier) places h name

pub returns-clause-first : goal.returns-clause-first
returns-clause-first c = table_first

pub returns-clause-next : goal.returns-clause-next
returns-clause-next c = λ earlier places at name h below. table_next earlier places at name h below

pub returns-clause-compressed : goal.returns-clause-compressed
returns-clause-compressed c = λ r h. text_compressed r h

pub returns-clause-long : goal.returns-clause-long
returns-clause-long c = λ r. text_longer r

pub returns-clause-reads_back : goal.returns-clause-reads_back
returns-clause-reads_back c = λ r h. reads_back r h
