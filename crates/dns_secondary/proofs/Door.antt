-- The request at a server's door.
use Rattle.std.proofs.Common.{◌≡◌, ℕ, ◌≤◌, Bool, true, false, List, length, Option, Some, None, refl, sym, ap, ◌∙◌, arith}
use Rattle.std.specs.Prelude.{◌||◌, ◌==◌, nat_lt, if◌then◌else◌}
use borrow.Author.Tests.{le-ltb}
use Rattle.dns_names.specs.Name.{Labels}
use Rattle.dns_zone.specs.Zone.{Zone}
use Rattle.dns_wire.specs.Message.{Message, header_of}
use Rattle.dns_wire.specs.Reads.{Reads}
use Rattle.dns_request.specs.Codes.{rcode_formerr}
use Rattle.dns_request.specs.Request.{Request, Transfer, request_as, read_as, too_long, Refused, IsRequest}
use Rattle.dns_request.specs.declared.request.Transport.{Transport}
use Rattle.dns_request.specs.declared.request.Transport.TheVariants.{Udp, Tcp}
use Rattle.dns_secondary.specs.Request.{question_asked, request_message, request_octets, most_by}

past : (b : Bool) (x y : Request) → b ≡ false → (if b then x else y) ≡ y
past true x y e = absurd cc
past false x y e = refl

or_true : (b : Bool) → (b || true) ≡ true
or_true true = refl
or_true false = refl

short_enough : (transport : Transport) (octets : List ℕ) → length octets ≤ most_by transport → too_long transport octets ≡ false
short_enough Udp octets h = le-ltb 512 (length octets) h
short_enough Tcp octets h = refl

asks : (apex : Labels) (held : Option Zone) (id : ℕ)
    → read_as (Some (request_message apex held id)) ≡ Transfer (request_message apex held id) (question_asked apex held)
asks apex None id = refl
asks apex (Some z) id =
    ap (λ b. if b then Transfer (request_message apex (Some z) id) (question_asked apex (Some z)) else Refused rcode_formerr)
    (or_true (length (request_message apex (Some z) id).authorities == 0))

door_as : (apex : Labels) (held : Option Zone) (id : ℕ) (transport : Transport)
    → length (request_octets apex held id) ≤ most_by transport
    → request_as (request_octets apex held id) transport (Some (request_message apex held id))
    ≡ Transfer (request_message apex held id) (question_asked apex held)
door_as apex held id transport h =
    let octets = request_octets apex held id in
    let whole : 12 ≤ length octets = omega arith in
    let heard : (nat_lt (length octets) 12 || (header_of octets).qr) ≡ false = ap (λ b. b || false) (le-ltb (length octets) 12 whole) in
    past (nat_lt (length octets) 12 || (header_of octets).qr) _ _ heard
    ∙ past (too_long transport octets) _ _ (short_enough transport octets h)
    ∙ asks apex held id

pub at_the_door : (apex : Labels) (held : Option Zone) (id : ℕ) (transport : Transport)
    → ((octets : List ℕ) (m n : Message) → Reads octets m → Reads octets n → m ≡ n)
    → length (request_octets apex held id) ≤ most_by transport
    → Reads (request_octets apex held id) (request_message apex held id)
    → IsRequest (request_octets apex held id) transport (Transfer (request_message apex held id) (question_asked apex held))
at_the_door apex held id transport once short reads = record {
  read = λ m there.
      (let one = once (request_octets apex held id) (request_message apex held id) m reads there in
      sym (door_as apex held id transport short) ∙ ap (λ (n : Message). request_as (request_octets apex held id) transport (Some n)) one);
  unread = λ none. absurd (none (request_message apex held id) reads);
}
