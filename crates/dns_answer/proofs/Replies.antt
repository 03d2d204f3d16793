-- The reply to a query, put together.
use Rattle.std.proofs.Common.{◌≡◌, ℕ, Bool, List, [], ◌++◌, refl, sym, ap, ◌∙◌}
use Rattle.std.specs.Prelude.{Option, Some, None, is_none, if◌then◌else◌}
use Rattle.dns_names.specs.Name.{Labels}
use Rattle.dns_zone.specs.Zone.{Zone}
use Rattle.dns_lookup.specs.Lookup.{Found, resolve, zone_of}
use Rattle.dns_lookup.specs.Lent.{IsFirst}
use Rattle.dns_lookup.specs.declared.chain.Found as returned
use Rattle.dns_wire.specs.Message.{Message, Question}
use Rattle.dns_wire.specs.Text.{Reply}
use Rattle.dns_wire.specs.Building.{HasNoRecord}
use Rattle.dns_answer.specs.Short.{with_lent}
use Rattle.dns_answer.specs.declared.short.LentSections.{LentSections}
use Rattle.dns_records.specs.Record.{Record}
use Rattle.dns_request.specs.Codes.{rcode_nxdomain, rcode_refused}
use Rattle.dns_answer.specs.Sections.{additional_of, answer_of, authority_of, is_authoritative, is_name_error, records_of}
use Rattle.dns_answer.specs.Answer.{with_question, with_sections, reply_for, answered}

-- the reply by the zone that answers for the name
abbrev reply_by : List Zone → List ℕ → Message → Question → Option Zone → Reply
reply_by zones octets m q zone = if is_none zone then with_question octets m q rcode_refused else reply_for octets m q (resolve zones q.name q.qtype)

pub refused : (zones : List Zone) (octets : List ℕ) (m : Message) (q : Question) → zone_of zones q.name ≡ None → with_question octets m q rcode_refused ≡ answered zones octets m q
refused zones octets m q e = ap (reply_by zones octets m q) (sym e)

pub answered-is : (zones : List Zone) (octets : List ℕ) (m : Message) (q : Question) (z : Zone) → zone_of zones q.name ≡ Some z → reply_for octets m q (resolve zones q.name q.qtype) ≡ answered zones octets m q
answered-is zones octets m q z e = ap (reply_by zones octets m q) (sym e)

-- a reply with no record, lent none
pub bare : (r : Reply) (lent : LentSections) → HasNoRecord r → lent.answer.now ≡ [] → lent.authority.now ≡ [] → lent.additional.now ≡ [] → with_lent r r.aa lent ≡ r
bare r lent none answer authority additional = λ i. record r { answer = (answer ∙ sym none.answer) i; authority = (authority ∙ sym none.authority) i; additional = (additional ∙ sym none.additional) i }

-- the reply to what was found, of a reply with the question alone
module _ (octets : List ℕ) (m : Message) (q : Question) (fs : List Found) (b : Reply) (rcode : ℕ) (aa : Bool) (bare : b ≡ with_question octets m q rcode) (code : rcode ≡ (if is_name_error fs then rcode_nxdomain else 0)) (authority : aa ≡ is_authoritative fs) where
  base : b ≡ with_question octets m q (if is_name_error fs then rcode_nxdomain else 0)
  base = bare ∙ ap (with_question octets m q) code

  pub whole : (answers authorities additionals : List Record) → answers ≡ records_of (answer_of q.qtype fs) → authorities ≡ records_of (authority_of fs) → additionals ≡ additional_of (answer_of q.qtype fs ++ authority_of fs) → record b { aa = aa; answer = answers; authority = authorities; additional = additionals } ≡ reply_for octets m q fs
  whole answers authorities additionals first second third = λ i. record (base i) { aa = authority i; answer = first i; authority = second i; additional = third i }

-- the reply to what was found, of a reply with the question alone, lent any records
pub replied : (octets : List ℕ) (m : Message) (q : Question) (fs : List Found) (r : Reply) (rcode : ℕ) (aa : Bool)
    (lent : LentSections)
    → r ≡ with_lent (with_question octets m q rcode) aa lent
    → rcode ≡ (if is_name_error fs then rcode_nxdomain else 0)
    → aa ≡ is_authoritative fs
    → with_sections r q.qtype fs ≡ reply_for octets m q fs
replied octets m q fs r rcode aa lent is code authority =
    ap (λ (b : Reply). with_sections b q.qtype fs) is
    ∙ whole octets m q fs (with_question octets m q rcode) rcode aa refl code authority (records_of (answer_of q.qtype fs))
    (records_of (authority_of fs)) (additional_of (answer_of q.qtype fs ++ authority_of fs)) refl refl refl

-- what the name of a question finds, and the name of the question
pub first_as : (zones : List Zone) (t u : ℕ) (first : returned.Found) (name : Labels) → first.name ≡ name → t ≡ u → IsFirst zones t first → (z : Zone) × (zone_of zones name ≡ Some z)
first_as zones t u first name named typed h = (h.zone, ap (zone_of zones) (sym named) ∙ h.closest)
