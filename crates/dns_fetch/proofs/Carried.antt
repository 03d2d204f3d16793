-- What a stream carried, one piece after the other.
use Rattle.std.proofs.Common.{◌≡◌, ℕ, List, [], ◌++◌, Option, Some, refl, sym, ap, subst, ◌∙◌, append_assoc, append-nil, rules}
use Rattle.std.specs.Prelude.{◌↔◌}
use Rattle.dns_names.specs.Name.{Labels}
use Rattle.dns_zone.specs.Zone.{Zone}
use Rattle.dns_network.specs.Framed.{IsFramed, pending_length}
use Rattle.dns_network.specs.declared.stream.Stream.{Ghosts}
use Rattle.dns_secondary.specs.Receiving.{Receiving}
use Rattle.dns_secondary.specs.Request.{request_octets}
use Rattle.dns_secondary.specs.declared.fault.Fault.{Fault}
use Rattle.dns_fetch.specs.TakingIn.{HasExchanged, HasHeard, HasHeardEnd, HasHeardRefusal, IsRequestAnswered, IsAnswerRefused, IsTakenIn, HearsMore, TellEnd, TellRefusal, asking, request_number}
use Rattle.dns_fetch.proofs.Heard.{IsTakenLaw, end_on, refusal_on, refused_as, taken_as}
use Rattle.dns_fetch.proofs.Idle.{IsReadOnce, goes_on}

module _ {S : Type 0} (g : Ghosts S) where
  pub none_carried : (old : S) → HasExchanged g old [] [] old
  none_carried old = record { faithful = λ f. f; sent = λ _. sym (append-nil (g.sent old)); received = λ _. sym (append-nil (g.received old)) }

  pub carried_on : (old mid new : S) (a b c d : List ℕ) → HasExchanged g old a b mid → HasExchanged g mid c d new → HasExchanged g old (a ++ c) (b ++ d) new
  carried_on old mid new a b c d h k = record {
    faithful = λ f. k.faithful (h.faithful f);
    sent = λ f. k.sent (h.faithful f) ∙ ap (λ (x : List ℕ). x ++ c) (h.sent f) ∙ append_assoc (g.sent old) a c;
    received = λ f. k.received (h.faithful f) ∙ ap (λ (x : List ℕ). x ++ d) (h.received f) ∙ append_assoc (g.received old) b d;
  }

  -- It was waited.
  pub carried_still : (old new : S) → (g.is_faithful old → g.received new ≡ g.received old) → (g.is_faithful old → g.sent new ≡ g.sent old) → (g.is_faithful new ↔ g.is_faithful old) → HasExchanged g old [] [] new
  carried_still old new received sent faithful = record {
    faithful = faithful.1;
    sent = λ f. sent f ∙ sym (append-nil (g.sent old));
    received = λ f. received f ∙ sym (append-nil (g.received old));
  }

  -- A read.
  pub carried_in : (old new : S) (came : List ℕ) → (g.is_faithful old → g.received new ≡ g.received old ++ came) → (g.is_faithful old → g.sent new ≡ g.sent old) → (g.is_faithful new ↔ g.is_faithful old) → HasExchanged g old [] came new
  carried_in old new came received sent faithful = record {
    faithful = faithful.1;
    sent = λ f. sent f ∙ sym (append-nil (g.sent old));
    received = received;
  }

  -- What was taken by a stream and what is left are what was to be written.
  pub record IsWriting (old : S) (whole : List ℕ) (now : S) (left : List ℕ) : Type 0 where
    pub faithful : g.is_faithful old → g.is_faithful now
    pub sent : g.is_faithful old → g.sent now ++ left ≡ g.sent old ++ whole
    pub received : g.is_faithful old → g.received now ≡ g.received old

  pub writing_begun : (old : S) (whole : List ℕ) → IsWriting old whole old whole
  writing_begun old whole = record { faithful = λ f. f; sent = λ _. refl; received = λ _. refl }

  pub writing_on : (old now next : S) (whole left rest : List ℕ) → IsWriting old whole now left → (g.is_faithful now → g.sent next ++ rest ≡ g.sent now ++ left) → (g.is_faithful now → g.received next ≡ g.received now) → (g.is_faithful next ↔ g.is_faithful now) → IsWriting old whole next rest
  writing_on old now next whole left rest h sent received faithful = record {
    faithful = λ f. faithful.1 (h.faithful f);
    sent = λ f. sent (h.faithful f) ∙ h.sent f;
    received = λ f. received (h.faithful f) ∙ h.received f;
  }

  pub writing_still : (old now next : S) (whole left : List ℕ) → IsWriting old whole now left → (g.is_faithful now → g.received next ≡ g.received now) → (g.is_faithful now → g.sent next ≡ g.sent now) → (g.is_faithful next ↔ g.is_faithful now) → IsWriting old whole next left
  writing_still old now next whole left h received sent faithful = writing_on old now next whole left left h (λ f. ap (λ (x : List ℕ). x ++ left) (sent f)) received faithful

  pub written : (old now : S) (whole left : List ℕ) → IsWriting old whole now left → left ≡ [] → HasExchanged g old whole [] now
  written old now whole left h e = record {
    faithful = h.faithful;
    sent = λ f. sym (append-nil (g.sent now)) ∙ ap (λ (x : List ℕ). g.sent now ++ x) (sym e) ∙ h.sent f;
    received = λ f. h.received f ∙ sym (append-nil (g.received old));
  }

-- How streams are cut.
abbrev pub IsCutLaw : Type 0
IsCutLaw = (piece next : List ℕ) (messages messages' : List (List ℕ)) (rest rest' : List ℕ) → IsFramed piece messages rest → IsFramed (rest ++ next) messages' rest' → IsFramed (piece ++ next) (messages ++ messages') rest'

module _ {S : Type 0} (g : Ghosts S) where
  -- A piece more was heard.
  pub heard_on : IsCutLaw → (old mid new : S) (ms ns : List (List ℕ)) (rest rest' piece : List ℕ) → HasHeard g old ms rest mid → HasExchanged g mid [] piece new → IsFramed (rest ++ piece) ns rest' → HasHeard g old (ms ++ ns) rest' new
  heard_on law old mid new ms ns rest rest' piece h k framed = record {
    octets = h.octets ++ piece;
    framed = law h.octets piece ms ns rest rest' h.framed framed;
    carried = carried_on g old mid new [] h.octets [] piece h.carried k;
  }

  -- How far an answer was heard and read.
  pub record IsHearing (old : S) (s : Receiving) (rest : List ℕ) (new : S) (idle : ℕ) (now : Receiving) : Type 0 where
    pub messages : List (List ℕ)
    pub heard : HasHeard g old messages rest new
    pub more : HearsMore 0 s messages idle now

  none_framed : IsFramed [] [] []
  none_framed = record { short = search rules; whole = refl; none = λ message rest short e. absurd cc }

  pub hearing_begun : (old : S) (s : Receiving) (rest : List ℕ) → rest ≡ [] → IsHearing old s rest old 0 s
  hearing_begun old s rest e = record {
    messages = [];
    heard = record { octets = []; framed = subst (λ (x : List ℕ). IsFramed [] [] x) (sym e) none_framed; carried = none_carried g old };
    more = (refl, refl);
  }

  pub hearing_on : IsCutLaw → (old mid new : S) (a b : ℕ) (s now next : Receiving) (ns : List (List ℕ)) (rest rest' piece : List ℕ) → IsHearing old s rest mid a now → HasExchanged g mid [] piece new → IsFramed (rest ++ piece) ns rest' → HearsMore a now ns b next → IsHearing old s rest' new b next
  hearing_on law old mid new a b s now next ns rest rest' piece h k framed told = record {
    messages = h.messages ++ ns;
    heard = heard_on law old mid new h.messages ns rest rest' piece h.heard k framed;
    more = goes_on 0 a b s now next h.messages ns h.more told;
  }

  pub hearing_ends : IsCutLaw → (old mid new : S) (a : ℕ) (s now next : Receiving) (ns : List (List ℕ)) (rest rest' piece : List ℕ) → IsHearing old s rest mid a now → HasExchanged g mid [] piece new → IsFramed (rest ++ piece) ns rest' → TellEnd a now ns next → HasHeardEnd g old s new next
  hearing_ends law old mid new a s now next ns rest rest' piece h k framed told =
      (h.messages ++ ns, rest', heard_on law old mid new h.messages ns rest rest' piece h.heard k framed, end_on 0 a s now next h.messages ns h.more told)

  pub hearing_refuses : IsCutLaw → (old mid new : S) (a : ℕ) (s now : Receiving) (ns : List (List ℕ)) (rest rest' piece : List ℕ) (fault : Fault) → IsHearing old s rest mid a now → HasExchanged g mid [] piece new → IsFramed (rest ++ piece) ns rest' → TellRefusal a now ns fault → HasHeardRefusal g old s fault new
  hearing_refuses law old mid new a s now ns rest rest' piece fault h k framed told =
      (h.messages ++ ns, rest', heard_on law old mid new h.messages ns rest rest' piece h.heard k framed, refusal_on 0 a s now h.messages ns fault h.more told)

  -- The request was sent before.
  asked_heard : (apex : Labels) (held : Option Zone) (old mid new : S) (messages : List (List ℕ)) (rest : List ℕ) → HasExchanged g old (pending_length (request_octets apex held request_number)) [] mid → HasHeard g mid messages rest new → IsRequestAnswered g apex held old messages new
  asked_heard apex held old mid new messages rest h k = record {
    octets = k.octets;
    rest = rest;
    framed = k.framed;
    carried = record {
      faithful = λ f. k.carried.faithful (h.faithful f);
      sent = λ f. k.carried.sent (h.faithful f) ∙ append-nil (g.sent mid) ∙ h.sent f;
      received = λ f. k.carried.received (h.faithful f) ∙ ap (λ (x : List ℕ). x ++ k.octets) (h.received f ∙ append-nil (g.received old));
    };
  }

  -- A zone was taken in by one who asked for it.
  pub taken_in : IsTakenLaw → IsReadOnce → (apex : Labels) (held : Option Zone) (s new_s : Receiving) (old mid new : S) → s ≡ asking apex held → HasExchanged g old (pending_length (request_octets s.apex s.held s.id)) [] mid → HasHeardEnd g mid s new new_s → (zone : Zone) × (new_s.held ≡ Some zone) × IsTakenIn g apex held old zone.records new
  taken_in law once apex held s new_s old mid new is h k =
      let sent = subst (λ (x : Receiving). HasExchanged g old (pending_length (request_octets x.apex x.held x.id)) [] mid) is h in
      let told = taken_as law once apex held k.0 new_s (subst (λ (x : Receiving). TellEnd 0 x k.0 new_s) is k.3) in
      (told.zone, told.is, (k.0, asked_heard apex held old mid new k.0 k.1 sent k.2, told.told))

  pub refused_in : (apex : Labels) (held : Option Zone) (s : Receiving) (old mid new : S) (fault : Fault) → s ≡ asking apex held → HasExchanged g old (pending_length (request_octets s.apex s.held s.id)) [] mid → HasHeardRefusal g mid s fault new → IsAnswerRefused g apex held old fault new
  refused_in apex held s old mid new fault is h k =
      let sent = subst (λ (x : Receiving). HasExchanged g old (pending_length (request_octets x.apex x.held x.id)) [] mid) is h in
      (k.0, asked_heard apex held old mid new k.0 k.1 sent k.2, refused_as apex held k.0 fault (subst (λ (x : Receiving). TellRefusal 0 x k.0 fault) is k.3))
