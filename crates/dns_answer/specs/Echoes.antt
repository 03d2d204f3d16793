-- A question as the code hands it on, the question that is stated, and the reply to it.
use Rattle.std.specs.Prelude.{◌≡◌, ℕ, List}
use Rattle.dns_zone.specs.Zone.{Zone}
use Rattle.dns_lookup.specs.Lent.{IsFirst}
use Rattle.dns_lookup.specs.declared.chain.Found.{Found}
use Rattle.dns_wire.specs.Message.{Question, Received}
use Rattle.dns_wire.specs.declared.reply.EchoedQuestion.{EchoedQuestion}
use Rattle.dns_wire.specs.Echo.{echo_of}
use Rattle.dns_request.specs.declared.request.Transport.{Transport}
use Rattle.dns_wire.specs.Text.{Reply}
use Rattle.dns_answer.specs.Answer.{answered, fitted, with_sections}
use Rattle.dns_answer.specs.Found.{IfFound}

pub record Echoes (message : List ℕ) (q : Question) (echo : EchoedQuestion) : Type 0 where
  pub octets_as : echo.octets.now ≡ (echo_of message q).octets
  pub name_as : echo.name ≡ q.name

-- The octets are the reply to the question of a message for this type.
abbrev pub AreReplyFor : Received → EchoedQuestion → List Zone → ℕ → Transport → List ℕ → Type 0
AreReplyFor m echo zones t transport octets =
    (q : Question) → Echoes m.octets q echo → t ≡ q.qtype
    → octets ≡ fitted transport (answered zones m.octets m.message q)

-- They are so whatever the zones, the type and the transport are, if this is what the question's name finds.
abbrev pub IsReplyToFirst : Received → EchoedQuestion → Found → List ℕ → Type 0
IsReplyToFirst m echo first octets =
    (zones : List Zone) (t : ℕ) (transport : Transport)
    → IsFirst zones t first → AreReplyFor m echo zones t transport octets

-- The octets are this reply with the sections of what is found in the zones.
abbrev pub AreReplyWithSections : Reply → List Zone → List Found → Transport → List ℕ → Type 0
AreReplyWithSections reply zones found transport octets =
    IfFound zones found (λ t fs. octets ≡ fitted transport (with_sections reply t fs))
