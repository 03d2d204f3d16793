-- Records are read on exactly where they begin a longer list of a form.
use Rattle.std.proofs.Common.{◌≡◌, ◌≢◌, Bool, true, false, not, ◌&&◌, ◌||◌, inl, inr, List, [], ◌∷◌, ◌++◌, map, Option, Some, None, refl, sym, ap, subst, ◌∙◌}
use Rattle.std.specs.Prelude.{◌==◌, Result, Ok, Err, IfOk, IfSome, if◌then◌else◌}
use Rattle.std.specs.Ordering.{is_eq}
use Rattle.dns_names.specs.Name.{Labels, names_eq}
use Rattle.dns_records.specs.Record.{Record, record_cmp, serial_of}
use Rattle.dns_records.specs.Types.{type_ns, type_soa}
use Rattle.dns_zone.specs.Records.{put, without, has, contains, same}
use Rattle.dns_zone.specs.Order.{names_itself, number_itself, same_is, same_itself}
use Rattle.dns_zone.specs.Zone.{Zone, IsZone, soas}
use Rattle.dns_changes.specs.Change.{is_soa}
use Rattle.dns_wire.specs.Message.{ResourceRecord, record_of_item}
use Rattle.dns_secondary.specs.State.{State, Begun, Led, Whole, Removing, Adding, Ended, IsUnfinished}
use Rattle.dns_secondary.specs.Step.{step, second, within_whole, last, collect, first_sequence, sequence_from, remove, new_soa, add}
use Rattle.dns_secondary.specs.Rest.{Reaches}
use Rattle.dns_secondary.specs.Taken.{IsSoaAt, AreOthers, Collects, HasWholeForm, HasAnswerForm, IsBeginning}
use Rattle.dns_secondary.specs.declared.fault.Fault.{Fault}
use Rattle.dns_secondary.specs.declared.fault.Fault.TheVariants.{BadSequence, RemovesAbsent, AddsPresent, InvalidZone}
use Rattle.dns_secondary.proofs.Forms.{Goes, when, unless, and_false, soa_of, begins, whole_others, changed_goes, reaches_of, goes_of}
use Rattle.dns_secondary.proofs.Shapes.{HasLongForm, long_form, not_true, not_false, both_is}
use Rattle.dns_secondary.proofs.Soas.{apart, others_filter, others_put, others_put_new, has_none, contains_new, contains_on, others_of_zone}

-- within the records that come
record InAdding (soa : Record) (set : List Record) (reached : Record) : Type 0 where
  leading : is_soa soa ≡ true
  new : is_soa reached ≡ true
  there : contains set reached ≡ true
  others : AreOthers (without reached set)
  leads : (serial_of reached == serial_of soa) ≡ true → reached ≡ soa

-- what a state that is reached has
abbrev IsSound : State → Type 0
IsSound Begun = Unit {0}
IsSound (Led soa) = is_soa soa ≡ true
IsSound (Whole soa set) = is_soa soa ≡ true
IsSound (Removing soa set) = (is_soa soa ≡ true) × AreOthers set
IsSound (Adding soa set reached) = InAdding soa set reached
IsSound (Ended set) = Unit {0}

abbrev Sound : Result State Fault → Type 0
Sound r = IfOk r IsSound

by_test : (b : Bool) (x y : Result State Fault) → (b ≡ true → Sound x) → (b ≡ false → Sound y) → Sound (if b then x else y)
by_test true x y h k = h refl
by_test false x y h k = k refl

last_sound : (soa : Record) (set : List Record) (r : Record) → Sound (last soa set r)
last_sound soa set r = by_test (same r soa) (Ok (Ended set)) (Err BadSequence) (λ e. tt) (λ e. tt)

collect_sound : (soa : Record) (set : List Record) (r : Record) → is_soa soa ≡ true → Sound (collect soa set r)
collect_sound soa set r leading =
    by_test (not (has r set)) (Ok (Whole soa (put r set))) (if contains set r then Ok (Whole soa set) else Err InvalidZone) (λ e. leading)
    (λ e. by_test (contains set r) (Ok (Whole soa set)) (Err InvalidZone) (λ f. leading) (λ f. tt))

whole_sound : (soa : Record) (set : List Record) (r : Record) → is_soa soa ≡ true → Sound (within_whole soa set r)
whole_sound soa set r leading =
    by_test (is_soa r) (last soa set r) (collect soa set r) (λ e. last_sound soa set r) (λ e. collect_sound soa set r leading)

remove_sound : (soa : Record) (set : List Record) (r : Record) → is_soa soa ≡ true → AreOthers (without r set) → Sound (remove soa set r)
remove_sound soa set r leading h =
    by_test (contains set r) (Ok (Removing soa (without r set))) (Err RemovesAbsent) (λ e. (leading, h)) (λ e. tt)

sequence_sound : (soa : Record) (set : List Record) (reached r : Record) → is_soa soa ≡ true → AreOthers (without reached set)
    → Sound (sequence_from soa set reached r)
sequence_sound soa set reached r leading h =
    by_test (same r reached) (remove soa set r) (Err BadSequence)
    (λ e. remove_sound soa set r leading (subst (λ (q : Record). AreOthers (without q set)) (sym (same_is r reached e)) h)) (λ e. tt)

first_sound : (soa : Record) (z : Zone) (firsts : List Record) (r : Record) → is_soa soa ≡ true → IsZone z → soas z.records ≡ firsts
    → Sound (first_sequence soa z.records firsts r)
first_sound soa z [] r leading valid is = tt
first_sound soa z (first ∷ more) r leading valid is =
    by_test (serial_of soa == serial_of first) (Err BadSequence) (sequence_from soa z.records first r) (λ e. tt)
    (λ e. sequence_sound soa z.records first r leading (others_of_zone z first more valid is))

second_sound : (held : Option Zone) (soa r : Record) → is_soa soa ≡ true → IfSome held IsZone → Sound (second held soa r)
second_sound None soa r leading valid = whole_sound soa (soa ∷ []) r leading
second_sound (Some z) soa r leading valid =
    by_test (is_soa r) (first_sequence soa z.records (soas z.records) r) (collect soa (soa ∷ []) r)
    (λ e. first_sound soa z (soas z.records) r leading valid refl) (λ e. collect_sound soa (soa ∷ []) r leading)

add_sound : (soa : Record) (set : List Record) (reached r : Record) → is_soa r ≡ false → InAdding soa set reached → Sound (add soa set reached r)
add_sound soa set reached r other h =
    by_test (has r set) (Err AddsPresent) (Ok (Adding soa (put r set) reached)) (λ e. tt)
    (λ e. record {
      leading = h.leading;
      new = h.new;
      there = contains_on reached r set e h.there;
      others = others_put reached r set other h.others;
      leads = h.leads;
    })

new_sound : (soa : Record) (set : List Record) (r : Record) → is_soa soa ≡ true → is_soa r ≡ true → AreOthers set → Sound (new_soa soa set r)
new_sound soa set r leading is h =
    by_test (serial_of r == serial_of soa && not (same r soa)) (Err BadSequence) (add soa set r r) (λ e. tt)
    (λ fine. by_test (has r set) (Err AddsPresent) (Ok (Adding soa (put r set) r)) (λ e. tt)
    (λ e. record {
      leading = leading;
      new = is;
      there = contains_new r set;
      others = others_put_new r set h;
      leads = λ one. same_is r soa (not_false (same r soa) (both_is (serial_of r == serial_of soa) (not (same r soa)) one fine));
    }))

module _ (apex : Labels) (held : Option Zone) (valid : IfSome held IsZone) where
  step_sound : (at : State) (r : Record) → IsSound at → Sound (step apex held at r)
  step_sound Begun r h =
      by_test (is_soa r && names_eq r.owner apex) (Ok (Led r)) (Err BadSequence) (λ e. soa_of apex held (is_soa r) (names_eq r.owner apex) e) (λ e. tt)
  step_sound (Led soa) r h = second_sound held soa r h valid
  step_sound (Whole soa set) r h = whole_sound soa set r h
  step_sound (Removing soa set) r h =
      by_test (is_soa r) (new_soa soa set r) (remove soa set r) (λ e. new_sound soa set r h.0 e h.1)
      (λ e. remove_sound soa set r h.0 (others_filter (λ s. not (is_eq (record_cmp r s))) set h.1))
  step_sound (Adding soa set reached) r h =
      by_test (not (is_soa r)) (add soa set reached r) (if serial_of reached == serial_of soa then last soa set r else sequence_from soa set reached r)
      (λ e. add_sound soa set reached r (not_true (is_soa r) e) h)
      (λ e. by_test (serial_of reached == serial_of soa) (last soa set r) (sequence_from soa set reached r) (λ f. last_sound soa set r)
      (λ f. sequence_sound soa set reached r h.leading h.others))
  step_sound (Ended set) r h = tt

  all_sound : (at : State) (rs : List Record) (end : State) → IsSound at → Goes apex held at rs end → IsSound end
  all_sound at [] end h go = subst IsSound (sym go) h
  all_sound at (r ∷ rs) end h go = all_sound go.0 rs end (subst Sound go.1 (step_sound at r h)) go.2

-- a record that is no SOA
abbrev plain : Record → Record
plain soa = record { owner = soa.owner; rtype = type_ns; ttl = 0; rdata = [] }

module _ (apex : Labels) (held : Option Zone) where
  -- records that lead from a state to the end
  record HasEnding (at : State) : Type 0 where
    later : List Record
    some : later ≢ []
    set : List Record
    goes : Goes apex held at later (Ended set)

  closes : (soa : Record) (set : List Record) → is_soa soa ≡ true → step apex held (Whole soa set) soa ≡ Ok (Ended set)
  closes soa set is = when (is_soa soa) _ _ is ∙ when (same soa soa) _ _ (same_itself soa)

  no_others : (x : Record) (xs : List Record) → ◌≢◌ {A = List Record} (x ∷ xs) []
  no_others x xs e = absurd cc

  ending_led : (soa : Record) → is_soa soa ≡ true → HasEnding (Led soa)
  ending_led soa is =
      let other = plain soa in
      let none : is_soa other ≡ false = refl in
      let free : has other (soa ∷ []) ≡ false = ap (λ b. b || false) (apart other soa (λ e. (let one = sym none ∙ e ∙ is in absurd cc))) in
      record {
        later = other ∷ soa ∷ [];
        some = no_others other (soa ∷ []);
        set = put other (soa ∷ []);
        goes = whole_others apex held soa other [] (put other (soa ∷ [])) is (refl, tt) (inl (free, refl));
      }

  ending_removing : (soa : Record) (set : List Record) → is_soa soa ≡ true → AreOthers set → HasEnding (Removing soa set)
  ending_removing soa set is others =
      let fine : (serial_of soa == serial_of soa && not (same soa soa)) ≡ false =
      ap (λ b. serial_of soa == serial_of soa && not b) (same_itself soa) ∙ and_false (serial_of soa == serial_of soa) in
      record {
        later = soa ∷ soa ∷ [];
        some = no_others soa (soa ∷ []);
        set = put soa set;
        goes = (
          Adding soa (put soa set) soa,
          when (is_soa soa) _ _ is ∙ unless (serial_of soa == serial_of soa && not (same soa soa)) _ _ fine
              ∙ unless (has soa set) _ _ (has_none soa set is others),
          (
            Ended (put soa set),
            unless (not (is_soa soa)) _ _ (ap not is) ∙ when (serial_of soa == serial_of soa) _ _ (number_itself (serial_of soa))
                ∙ when (same soa soa) _ _ (same_itself soa),
            refl,
          ),
        );
      }

  ending_adding : (soa : Record) (set : List Record) (reached : Record) → InAdding soa set reached → HasEnding (Adding soa set reached)
  ending_adding soa set reached h = at (serial_of reached == serial_of soa) refl
    where
      at : (b : Bool) → (serial_of reached == serial_of soa) ≡ b → HasEnding (Adding soa set reached)
      at true e = record {
        later = soa ∷ [];
        some = no_others soa [];
        set = set;
        goes = (
          Ended set,
          unless (not (is_soa soa)) _ _ (ap not h.leading) ∙ when (serial_of reached == serial_of soa) _ _ e ∙ when (same soa soa) _ _ (same_itself soa),
          refl,
        );
      }
      at false e =
          let more = ending_removing soa (without reached set) h.leading h.others in
          record {
            later = reached ∷ more.later;
            some = no_others reached more.later;
            set = more.set;
            goes = (
              Removing soa (without reached set),
              unless (not (is_soa reached)) _ _ (ap not h.new) ∙ unless (serial_of reached == serial_of soa) _ _ e
                  ∙ when (same reached reached) _ _ (same_itself reached) ∙ when (contains set reached) _ _ h.there,
              more.goes,
            );
          }

  ending : (at : State) → IsSound at → IsUnfinished at → HasEnding at
  ending Begun h on =
      let soa : Record = record { owner = apex; rtype = type_soa; ttl = 0; rdata = [] } in
      let leading : IsSoaAt apex soa = names_itself apex in
      let more = ending_led soa refl in
      record { later = soa ∷ more.later; some = no_others soa more.later; set = more.set; goes = (Led soa, begins apex held soa leading, more.goes) }
  ending (Led soa) h on = ending_led soa h
  ending (Whole soa set) h on = record { later = soa ∷ []; some = no_others soa []; set = set; goes = (Ended set, closes soa set h, refl) }
  ending (Removing soa set) h on = ending_removing soa set h.0 h.1
  ending (Adding soa set reached) h on = ending_adding soa set reached h
  ending (Ended set) h on = absurd on

  join : (at mid end : State) (xs ys : List Record) → Goes apex held at xs mid → Goes apex held mid ys end → Goes apex held at (xs ++ ys) end
  join at mid end [] ys h g = subst (λ s. Goes apex held s ys end) h g
  join at mid end (x ∷ xs) ys h g = (h.0, h.1, join h.0 mid end xs ys h.2 g)

  record Parts (at : State) (xs ys : List Record) (end : State) : Type 0 where
    mid : State
    front : Goes apex held at xs mid
    back : Goes apex held mid ys end

  part : (at : State) (xs ys : List Record) (end : State) → Goes apex held at (xs ++ ys) end → Parts at xs ys end
  part at [] ys end h = record { mid = at; front = refl; back = h }
  part at (x ∷ xs) ys end h = (let more = part h.0 xs ys end h.2 in record { mid = more.mid; front = (h.0, h.1, more.front); back = more.back })

  unfinished : (at : State) (ys : List Record) (end : State) → ys ≢ [] → Goes apex held at ys end → IsUnfinished at
  unfinished at [] end some h = absurd (some refl)
  unfinished Begun (y ∷ ys) end some h = tt
  unfinished (Led soa) (y ∷ ys) end some h = tt
  unfinished (Whole soa set) (y ∷ ys) end some h = tt
  unfinished (Removing soa set) (y ∷ ys) end some h = tt
  unfinished (Adding soa set reached) (y ∷ ys) end some h = tt
  unfinished (Ended set) (y ∷ ys) end some h = (let e = h.1 in absurd cc)

  -- a state that is not at the end
  record IsOpen (rs : List Record) : Type 0 where
    next : State
    goes : Goes apex held Begun rs next
    on : IsUnfinished next

  before : (rs later : List Record) (end : State) → later ≢ [] → Goes apex held Begun (rs ++ later) end → IsOpen rs
  before rs later end some h = (let p = part Begun rs later end h in record { next = p.mid; goes = p.front; on = unfinished p.mid later end some p.back })

  nothing : (xs ys : List Record) → xs ++ ys ≡ [] → ys ≡ []
  nothing [] ys e = e
  nothing (x ∷ xs) ys e = absurd cc

  -- the form of a whole zone that has a SOA alone
  two : (rs later : List Record) (soa : Record) → IsSoaAt apex soa → later ≢ [] → rs ++ later ≡ soa ∷ soa ∷ [] → IsOpen rs
  two [] later soa leading some e = record { next = Begun; goes = refl; on = tt }
  two (x ∷ []) later soa leading some e =
      let is : soa ≡ x = cc in
      record { next = Led x; goes = (Led x, begins apex held x (subst (IsSoaAt apex) is leading), refl); on = tt }
  two (x ∷ y ∷ xs) later soa leading some e = (let none : xs ++ later ≡ [] = cc in absurd (some (nothing xs later none)))

  open_whole : (rs later set : List Record) → later ≢ [] → HasWholeForm apex (rs ++ later) set → IsOpen rs
  open_whole rs later set some h = at h.soa h.others h.framed h.at_apex h.no_soas h.all
    where
      at : (soa : Record) (others : List Record) → rs ++ later ≡ soa ∷ others ++ soa ∷ [] → IsSoaAt apex soa → AreOthers others
          → Collects (soa ∷ []) others set → IsOpen rs
      at soa [] framed leading o all = two rs later soa leading some framed
      at soa (x ∷ xs) framed leading o all =
          before rs later (Ended set) some (subst (λ (ys : List Record). Goes apex held Begun ys (Ended set)) (sym framed)
          (Led soa, begins apex held soa leading, whole_others apex held soa x xs set (soa_of apex held (is_soa soa) _ leading) o all))

  open_form : (rs later : List Record) → later ≢ [] → HasAnswerForm apex held (rs ++ later) → IsOpen rs
  open_form rs later some (inl h) =
      before rs later (Led h.0) some (subst (λ (ys : List Record). Goes apex held Begun ys (Led h.0)) (sym h.1) (Led h.0, begins apex held h.0 h.2, refl))
  open_form rs later some (inr (inl h)) = open_whole rs later h.0 some h.1
  open_form rs later some (inr (inr h)) = before rs later (Ended h.0) some (changed_goes apex held (rs ++ later) h.0 h.1)

  -- records that lead to a state which is not at the end
  pub record GoOn (records : List ResourceRecord) : Type 0 where
    pub next : State
    pub reaches : Reaches apex held Begun records next
    pub on : IsUnfinished next

  pub go_on : (records : List ResourceRecord) → IsBeginning apex held records → GoOn records
  go_on records h =
      let beyond = open_form (map record_of_item records) h.later h.longer h.form in
      record { next = beyond.next; reaches = reaches_of apex held Begun records beyond.next h.fit beyond.goes; on = beyond.on }

  long : (answer set : List Record) → HasLongForm apex held answer set → HasAnswerForm apex held answer
  long answer set (inl h) = inr (inl (set, h))
  long answer set (inr h) = inr (inr (set, h))

  pub beginning : (records : List ResourceRecord) (next : State) → IfSome held IsZone → Reaches apex held Begun records next → IsUnfinished next
      → IsBeginning apex held records
  beginning records next valid reaches on =
      let go = goes_of apex held Begun records next reaches in
      let rs = map record_of_item records in
      let e = ending next (all_sound apex held valid Begun rs next tt go.1) on in
      record {
        fit = go.0;
        later = e.later;
        longer = e.some;
        form = long (rs ++ e.later) e.set (long_form apex held (rs ++ e.later) e.set (join Begun next (Ended e.set) rs e.later go.1 e.goes));
      }
