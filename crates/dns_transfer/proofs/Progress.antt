-- Each message takes a record.
use Rattle.std.proofs.Common.{◌≡◌, ℕ, ◌+◌, ◌<◌, ◌≤◌, List, [], ◌∷◌, ◌++◌, length, Option, refl, sym, ap, ◌∙◌, arith}
use Rattle.std.proofs.lemmas.List.{length-append, append-nil}
use Rattle.dns_records.specs.Record.{Record, IsRecord}
use Rattle.dns_wire.specs.Compress.{compressed_record}
use Rattle.dns_wire.specs.Text.{EchoedQuestion, Reply, question_octets, question_places}
use Rattle.dns_wire.proofs.Short.{record_short}
use Rattle.dns_wire.proofs.TextPut.{asked_octets, text_size, first_all, second_all, third_all}
use Rattle.dns_transfer.specs.Messages.{Heading, IsNextMessage, message_with, octets_with}
use Rattle.dns_transfer.specs.Progress.{IsShort, HasFewer}

-- the message of one record
one_fits : (h : Heading) (question : Option EchoedQuestion) (r : Record) → IsShort question → IsRecord r → length (octets_with h question (r ∷ [])) ≤ 16384
unfolding first_all second_all third_all
one_fits h question r short valid =
    let reply : Reply = message_with h question (r ∷ []) in
    let here = compressed_record (question_places reply) (12 + length (question_octets reply)) r in
    let size : length (here.octets ++ []) ≡ length here.octets = ap length (append-nil here.octets) in
    let asks : length (question_octets reply) ≤ 259 = omega (arith, short, ap length (asked_octets reply)) in
    omega (arith, text_size reply, record_short (question_places reply) (12 + length (question_octets reply)) r valid, size, asks)

pub progress : (h : Heading) (question : Option EchoedQuestion) (left rest more : List Record) (r : Record) (message : List ℕ) → IsShort question → left ≡ r ∷ more → IsRecord r → IsNextMessage h question left message rest → HasFewer rest left
progress h question left rest more r message short e valid n = go n.sent refl
  where
    go : (sent : List Record) → n.sent ≡ sent → length rest < length left
    go [] none =
        (let all : rest ≡ r ∷ more = sym (n.in_order ∙ ap (λ (rs : List Record). rs ++ rest) none) ∙ e in
        let over : 16384 < length (octets_with h question (n.sent ++ r ∷ [])) = n.most r more all in
        let same : length (octets_with h question (n.sent ++ r ∷ [])) ≡ length (octets_with h question (r ∷ [])) = ap (λ (rs : List Record). length (octets_with h question (rs ++ r ∷ []))) none in
        absurd (omega (arith, over, same, one_fits h question r short valid)))
    go (s ∷ ss) some = (let whole : length left ≡ length ((s ∷ ss) ++ rest) = ap length (n.in_order ∙ ap (λ (rs : List Record). rs ++ rest) some) in omega (arith, whole, length-append (s ∷ ss) rest))
