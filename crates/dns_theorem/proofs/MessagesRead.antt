-- The messages of a transfer that is opened in a run are read as they were meant.
use Rattle.std.proofs.Common.{◌≡◌, ◌++◌, ◌<◌, ◌≤◌, ◌^◌, ℕ, Bool, List, [], ◌∷◌, length, Option, Some, None, refl, sym, ap, subst, ◌∙◌}
use Rattle.std.specs.Prelude.{IfSome}
use Rattle.std.specs.List.{AllByRecursion}
use Rattle.dns_records.specs.Record.{Record, IsRecord}
use Rattle.dns_wire.specs.Compressed.{IsCompressed}
use Rattle.dns_wire.specs.Message.{Header}
use Rattle.dns_wire.specs.Reads.{Reads}
use Rattle.dns_wire.specs.Reading.{message_of}
use Rattle.dns_wire.specs.Text.{EchoedQuestion, Reply}
use Rattle.dns_wire.specs.Valid.{IsEchoed, IsReply, message_of_reply}
use Rattle.dns_wire.proofs.QuestionsSent.{id_fits, echoed}
use Rattle.dns_wire.proofs.ReadsBack.{reads_back}
use Rattle.dns_wire.proofs.TextCompressed.{text_compressed}
use Rattle.dns_wire.proofs.Whole.{message_stands}
use Rattle.dns_request.specs.declared.request.Transport.{Transport}
use Rattle.dns_request.specs.declared.request.Transport.TheVariants.{Tcp}
use Rattle.dns_answer.specs.Answer.{AreTextOf}
use Rattle.dns_transfer.specs.Messages.{Heading, IsNextMessage, message_with}
use Rattle.dns_transfer.specs.Refusal.{client_serial, serial_asked}
use Rattle.dns_transfer.specs.Session.{Sending, SendsBy}
use Rattle.dns_update.proofs.Accepted.{as_octets}
use Rattle.dns_store.specs.Versions.{shown_of}
use Rattle.dns_primary.specs.Machine.{Machine, kept_of, shown_zones, sending_at}
use Rattle.dns_primary.specs.Step.{Arrives, Effects, Step}
use Rattle.dns_primary.specs.Continues.{OpensOn, Continues}
use Rattle.dns_primary.specs.Runs.{Moment, Took, Run, machine_at_end, Continuation}
use Rattle.dns_primary.proofs.Continued.{run_goes, step_opened}
use Rattle.dns_primary.proofs.Stopping.{fresh_keeps, resumed_keeps}
use Rattle.dns_theorem.specs.Copies.{SendsAll}
use Rattle.dns_theorem.specs.Headline.{AreOctetsIn, IsSoundState, BeginsLoaded, BeginsResumed, IsGivenOut, pumped_in}
use Rattle.dns_theorem.specs.Lives.{end_of_life}
use Rattle.dns_theorem.specs.Messages.{ReadsAsSent, TransfersAreRead, TransfersAreReadThroughLife}
use Rattle.dns_theorem.proofs.FollowedThroughLife.{known_since}
use Rattle.dns_theorem.proofs.Chained.{transfer_valid}
use Rattle.dns_theorem.proofs.Fed.{all_front, valid_reply}
use Rattle.dns_theorem.specs.Followed.{HasSoundVersions}
use Rattle.dns_theorem.proofs.Followed.{known_each, loaded_soundly, promise_goes, run_parts}
use Rattle.dns_theorem.proofs.Requests.{some_left}
use Rattle.dns_theorem.proofs.Shown.{named_found, whole, kept, kept_valid}
use Rattle.dns_theorem.proofs.Given.{given_all}
use Rattle.dns_theorem.proofs.Read.{transfer_read}

-- one message
text_of : (h : Heading) (question : Option EchoedQuestion) (left : List Record) (message : List ℕ) (rest : List Record) → h.id < 2 ^ 16 → IfSome question IsEchoed
    → (n : IsNextMessage h question left message rest) → AllByRecursion IsRecord n.sent → AreTextOf message (message_with h question n.sent)
text_of h question left message rest small asked n each =
    let reply : Reply = message_with h question n.sent in
    let valid : IsReply reply = valid_reply h question n.sent small asked (subst (λ (t : List ℕ). length t ≤ 16384) n.packed n.fits) each in
    (valid, n.packed, subst (λ (t : List ℕ). IsCompressed t reply) (sym n.packed) (text_compressed reply valid), subst (λ (t : List ℕ). Reads t (message_of_reply reply)) (sym n.packed) (reads_back reply valid))

-- what is sent of a session whose number, question and records can be sent
sends_read : (s : Sending) (messages : List (List ℕ)) → s.transport ≡ Tcp → (s.heading).id < 2 ^ 16 → IfSome s.question IsEchoed → AllByRecursion IsRecord s.left → SendsAll s messages
    → ReadsAsSent s messages
sends_read s [] tcp small asked each all = record { replies = []; texts = tt; answers = sym all }
sends_read s (message ∷ messages) tcp small asked each (some, next, sends, all) =
    let n : IsNextMessage s.heading s.question s.left message next.left = subst (λ (t : Transport). SendsBy t s message next.left) tcp sends.1 in
    let parts = all_front n.sent next.left (subst (AllByRecursion IsRecord) n.in_order each) in
    let same : next.heading ≡ s.heading = ap (λ (x : Sending). x.heading) sends.0 in
    let none : next.question ≡ None = ap (λ (x : Sending). x.question) sends.0 in
    let later : ReadsAsSent next messages = sends_read next messages (ap (λ (x : Sending). x.transport) sends.0 ∙ tcp) (subst (λ (h : Heading). h.id < 2 ^ 16) (sym same) small)
    (subst (λ (q : Option EchoedQuestion). IfSome q IsEchoed) (sym none) tt) parts.1 all in
    record {
      replies = message_with s.heading s.question n.sent ∷ later.replies;
      texts = (text_of s.heading s.question s.left message next.left small asked n parts.0, later.texts);
      answers = ap (λ (rs : List Record). n.sent ++ rs) later.answers ∙ sym n.in_order;
    }

-- of a machine whose zones have sound versions
module _ (now : Machine) (later : List Moment) (number : ℕ) (octets : List ℕ) (fails : List Bool) (effects : Effects) (opened : Machine) (sending : Sending)
    (sound : AllByRecursion HasSoundVersions now.zones)
    (step : Step fails now (Arrives number octets) effects opened)
    (run : Run opened later)
    (came : AllByRecursion (λ octet. octet < 256) octets)
    (free : sending_at number now.connections ≡ None)
    (opens : sending_at number opened.connections ≡ Some sending) where
  on : OpensOn now number (Arrives number octets) sending
  on = step_opened number fails now (Arrives number octets) effects opened sending free opens step

  these : on.octets ≡ octets
  these = (let e = on.arrives in cc)

  octal : AllByRecursion (λ octet. octet < 256) on.octets
  octal = subst (λ (xs : List ℕ). AllByRecursion (λ octet. octet < 256) xs) (sym these) came

  read : (message_of on.octets ≡ Some on.message) × ((on.message).questions ≡ on.question ∷ [])
  read = transfer_read (shown_zones now) on.octets Tcp on.octets on.message on.question on.asks

  reads : Reads on.octets on.message
  reads = message_stands on.octets on.message (as_octets on.octets octal) read.0

  known : HasSoundVersions on.zone
  known = named_found HasSoundVersions (on.question).name now.zones on.zone sound on.named

  abbrev shown : List Record
  shown = shown_of (kept_of on.zone)

  abbrev client : Option ℕ
  client = serial_asked on.question (client_serial on.question (on.message).authorities)

  each : AllByRecursion IsRecord sending.left
  each = subst (AllByRecursion IsRecord) (sym (on.opened).left) (transfer_valid shown (kept on.zone known) client (whole on.zone known).each (kept_valid on.zone known))

  small : (sending.heading).id < 2 ^ 16
  small = subst (λ (h : Heading). h.id < 2 ^ 16) (sym (on.opened).heading)
      (subst (λ (h : Header). h.id < 2 ^ 16) (sym reads.header) (id_fits on.octets (as_octets on.octets octal)))

  asked : IfSome sending.question IsEchoed
  asked = subst (λ (q : Option EchoedQuestion). IfSome q IsEchoed) (sym (on.opened).question) (echoed on.octets (as_octets on.octets octal) on.message on.question reads read.1)

  goes_on : Continues number later (Some sending)
  goes_on = subst (λ (o : Option Sending). Continues number later o) opens (run_goes number later opened (sending_at number opened.connections) refl run)

  pub are_read : IsGivenOut number (Some sending) later → ReadsAsSent sending (pumped_in number later)
  are_read given =
      sends_read sending (pumped_in number later) (on.opened).by small asked each
      (given_all number later sending (some_left sending (kept on.zone known) shown client (on.opened).soa (on.opened).left) goes_on given)

-- in a run of a machine whose zones are sound
read_from : (start : Machine) (earlier later : List Moment) (number : ℕ) (octets : List ℕ) (fails : List Bool) (effects : Effects) (opened : Machine) (sending : Sending)
    → AllByRecursion IsSoundState start.zones
    → Continuation start earlier
    → Run start (earlier ++ Took (Arrives number octets) fails effects opened ∷ later)
    → AllByRecursion AreOctetsIn earlier
    → AllByRecursion (λ octet. octet < 256) octets
    → sending_at number (machine_at_end start earlier).connections ≡ None
    → sending_at number opened.connections ≡ Some sending
    → IsGivenOut number (Some sending) later
    → ReadsAsSent sending (pumped_in number later)
read_from start earlier later number octets fails effects opened sending sound goes run before came free opens given =
    let now = machine_at_end start earlier in
    let rest_run = (run_parts start earlier (Took (Arrives number octets) fails effects opened ∷ later) run).1 in
    are_read now later number octets fails effects opened sending (known_each start earlier start.zones now.zones before sound goes.loaded goes.history goes.came) rest_run.0 rest_run.1 came free opens given

pub loaded_are_read : TransfersAreRead BeginsLoaded
loaded_are_read start earlier later number octets fails effects opened sending (zones, settings, sound, fresh) run before came free opens given =
    let first = (run_parts start earlier (Took (Arrives number octets) fails effects opened ∷ later) run).0 in
    read_from start earlier later number octets fails effects opened sending (loaded_soundly zones settings start.zones sound fresh.zones_are)
    (promise_goes start earlier first (fresh_keeps zones settings start earlier fresh first)) run before came free opens given

pub resumed_are_read : TransfersAreRead BeginsResumed
resumed_are_read start earlier later number octets fails effects opened sending (held, sound, resumed) run before came free opens given =
    let first = (run_parts start earlier (Took (Arrives number octets) fails effects opened ∷ later) run).0 in
    read_from start earlier later number octets fails effects opened sending sound (resumed_keeps held start earlier resumed first) run before came free opens given

-- and in a life
pub lives_are_read : TransfersAreReadThroughLife
lives_are_read start before later number octets fails effects opened sending begins life sound run came free opens given =
    let since = known_since start [] before begins life sound in
    are_read (end_of_life start before) later number octets fails effects opened sending since.sound run.0 run.1 came free opens given
