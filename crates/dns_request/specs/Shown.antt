-- A request of the code as a request of the definitions.
use Rattle.std.specs.Prelude.{◌≡◌, ℕ, List}
use Rattle.dns_wire.specs.Message.{header_of}
use Rattle.dns_wire.specs.Codes.{number_of_rcode}
use Rattle.dns_request.specs.Request as request
use Rattle.dns_request.specs.declared.request.Request.{Request}
use Rattle.dns_request.specs.declared.request.Request.TheVariants.{Ignored, Refused, NotServed, Query, Update}
use Rattle.dns_request.specs.declared.request.Request.TheVariants.{Transfer}

abbrev pub request_shown : Request → request.Request
request_shown Ignored = request.Ignored
request_shown (Refused header rcode) = request.Refused (number_of_rcode rcode)
request_shown (NotServed r rcode) = request.NotServed r.message.message r.question (number_of_rcode rcode)
request_shown (Query r) = request.Query r.message.message r.question
request_shown (Update r) = request.Update r.message.message r.question
request_shown (Transfer r) = request.Transfer r.message.message r.question

-- It is of these octets.
abbrev pub IsOf : List ℕ → Request → Type 0
IsOf octets Ignored = Unit {0}
IsOf octets (Refused header rcode) = header_of header.now ≡ header_of octets
IsOf octets (NotServed r rcode) = r.message.octets ≡ octets
IsOf octets (Query r) = r.message.octets ≡ octets
IsOf octets (Update r) = r.message.octets ≡ octets
IsOf octets (Transfer r) = r.message.octets ≡ octets
