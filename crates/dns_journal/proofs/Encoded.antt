-- An entry's octets as a head and bodies.
use Rattle.std.proofs.Common.{◌≡◌, ◌⊎◌, inl, inr, ⊎_elim, ℕ, ◌+◌, ◌-◌, ◌*◌, ◌^◌, ◌≤◌, ◌<◌, List, [], ◌∷◌, ◌++◌, length, take, drop, replicate, sym, ◌∙◌, ap, subst, arith, append_assoc}
use Rattle.std.proofs.Math.Seq.{take-length, take-append_seam, drop-append_seam}
use Rattle.std.proofs.lemmas.List.{append-nil, length-drop, length-take, length-replicate, take_all, take-append-drop}
use Rattle.std.proofs.lemmas.Bool.{cases_lt}
use Rattle.std.specs.Prelude.{min}
use Rattle.std.specs.List.{flat_map}
use Rattle.dns_sectors.specs.Phase.{pairs}
use Rattle.dns_sectors.specs.declared.phase.SectorWrite.{SectorWrite}
use Rattle.dns_layout.specs.Sector.{AreZeros, number, payload, entry_length, entry_sectors, snapshot_sectors, first_octets, payload_room, head_room}
use Rattle.dns_layout.specs.Own.{Own}
use Rattle.dns_layout.specs.Forms.{SaysHead}
use Rattle.dns_layout.specs.declared.head.Head.{Head}
use Rattle.dns_journal.specs.declared.read.Cursor.{Cursor}
use Rattle.dns_journal.specs.Staging.{Stages, PushesBodies}

least : (n : ℕ) → ((n < head_room) × (min n head_room ≡ n)) ⊎ ((head_room ≤ n) × (min n head_room ≡ head_room))
least n = ⊎_elim (λ less. inl (less, omega (arith, less))) (λ more. inr (more, omega (arith, more))) (cases_lt n head_room)

octets_back : (octets zs : List ℕ) (m : ℕ) → m ≡ min (length octets) head_room → take (length octets) ((take m octets ++ replicate (head_room - length (take m octets)) 0) ++ (drop m octets ++ zs)) ≡ octets
octets_back octets zs m is = ⊎_elim
    (λ short.
    let m_is : m ≡ length octets = is ∙ short.1 in
    let whole : take m octets ≡ octets = ap (λ n. take n octets) m_is ∙ take-length octets in
    ap (λ (l : List ℕ). take (length octets) ((l ++ replicate (head_room - length l) 0) ++ (drop m octets ++ zs))) whole
    ∙ ap (λ (l : List ℕ). take (length octets) l) (append_assoc octets (replicate (head_room - length octets) 0) (drop m octets ++ zs))
    ∙ take-append_seam octets (replicate (head_room - length octets) 0 ++ (drop m octets ++ zs)))
    (λ long.
    let m_is : m ≡ head_room = is ∙ long.1 in
    let none : head_room - length (take m octets) ≡ 0 = omega (arith, length-take m octets, m_is, long.0) in
    ap (λ n. take (length octets) ((take m octets ++ replicate n 0) ++ (drop m octets ++ zs))) none
    ∙ ap (λ (l : List ℕ). take (length octets) (l ++ (drop m octets ++ zs))) (append-nil (take m octets))
    ∙ ap (λ (l : List ℕ). take (length octets) l) (sym (append_assoc (take m octets) (drop m octets) zs) ∙ ap (λ (l : List ℕ). l ++ zs) (take-append-drop m octets))
    ∙ take-append_seam octets zs)
    (least (length octets))

pub are_zeros : (k : ℕ) → AreZeros (replicate k 0)
are_zeros k = ap (λ n. replicate {A = ℕ} n 0) (sym (length-replicate k 0))

enough : (n octets rest : ℕ) → n + 1 ≡ entry_sectors octets → rest ≡ octets - head_room → rest ≤ payload_room * n
unfolding entry_sectors
enough n octets rest is size = omega (arith, is, size)

pub stages : (old new : Cursor) (h : Head) (x octets : List ℕ) (m n : ℕ) (bodies bodies' heads heads' : List SectorWrite)
    → SaysHead x h → h.open_count ≡ old.opened → h.version ≡ old.version + 1 → h.length ≡ length octets → m ≡ min (length octets) head_room
    → first_octets x ≡ take m octets ++ replicate (head_room - length (take m octets)) 0 → Own old.at x
    → n + 1 ≡ entry_sectors (length octets) → PushesBodies (old.at + 1) h (drop m octets) n (pairs bodies) (pairs bodies')
    → pairs heads' ≡ pairs heads ++ (old.at, x) ∷ [] → old.at + entry_sectors (length octets) ≤ old.until
    → new.at ≡ old.at + (1 + n) → new.until ≡ old.until → new.version ≡ old.version + 1 → new.opened ≡ old.opened
    → Stages old new bodies bodies' heads heads' octets
stages old new h x octets m n bodies bodies' heads heads' says opened version len m_is first_is head_own n_is pushes heads_is room position until version_new opened_new =
    let rest = drop m octets in
    let rest_size : length rest ≡ length octets - head_room = omega (arith, length-drop m octets, m_is) in
    let flat : flat_map payload pushes.sectors ≡ rest ++ replicate (payload_room * n - length rest) 0 =
    pushes.holds ∙ ap (λ (l : List ℕ). l ++ replicate (payload_room * n - length rest) 0) (take_all (payload_room * n) rest (enough n (length octets) (length rest) n_is rest_size)) in
    let length_is : entry_length x ≡ length octets = says.length_is ∙ len in
    let number_is : number x + 1 ≡ entry_sectors (length octets) = says.bodies_is ∙ ap entry_sectors len in
    record {
      entry = record { head = x; bodies = pushes.sectors };
      holds =
          ap (λ k. take k (first_octets x ++ flat_map payload pushes.sectors)) length_is
          ∙ ap (λ (l : List ℕ). take (length octets) (l ++ flat_map payload pushes.sectors)) first_is
          ∙ ap (λ (l : List ℕ). take (length octets) ((take m octets ++ replicate (head_room - length (take m octets)) 0) ++ l)) flat
          ∙ octets_back octets (replicate (payload_room * n - length rest) 0) m m_is;
      next = record {
        head = record {
          tagged = says.tagged;
          next = says.version_is ∙ version;
          no_older = omega (arith, says.opened_is, opened);
          bodies = number_is ∙ ap entry_sectors (sym length_is);
          within = omega (arith, number_is, room);
        };
        count = omega (arith, pushes.count_is, number_is, n_is);
        bodies = pushes.are x says;
        zeros =
            subst (λ (l : List ℕ). AreZeros l)
            (sym (ap (λ k. drop k (flat_map payload pushes.sectors)) (omega (arith, length_is, rest_size)) ∙ ap (λ (l : List ℕ). drop (length rest) l) flat ∙ drop-append_seam rest (replicate (payload_room * n - length rest) 0)))
            (are_zeros (payload_room * n - length rest));
      };
      opened = says.opened_is ∙ opened;
      size = omega (arith, pushes.count_is, n_is);
      bodies_own = pushes.own;
      head_own = head_own;
      bodies_are = pushes.written;
      heads_are = heads_is;
      position = omega (arith, position, pushes.count_is);
      until_stays = until;
      version_is = version_new;
      opened_stays = opened_new;
    }

pub is_short : (octets until at : ℕ) → until ≤ 2 ^ 20 → entry_sectors octets ≤ until - at → octets < 2 ^ 32
unfolding entry_sectors
is_short octets until at small le = omega (arith, small, le)

parts_whole : (octets : ℕ) → octets ≤ payload_room * snapshot_sectors octets
unfolding snapshot_sectors
parts_whole octets = omega arith

-- parts that hold octets, with zeros after them
module _ (parts : List (List ℕ)) (octets : List ℕ) (len : ℕ) (len_is : len ≡ length octets)
    (holds : flat_map payload parts ≡ take (payload_room * snapshot_sectors (length octets)) octets ++ replicate (payload_room * snapshot_sectors (length octets) - length octets) 0) where
  flat : flat_map payload parts ≡ octets ++ replicate (payload_room * snapshot_sectors (length octets) - length octets) 0
  flat =
      holds
      ∙ ap (λ (l : List ℕ). l ++ replicate (payload_room * snapshot_sectors (length octets) - length octets) 0) (take_all (payload_room * snapshot_sectors (length octets)) octets (parts_whole (length octets)))

  pub held : take len (flat_map payload parts) ≡ octets
  held =
      ap (λ n. take n (flat_map payload parts)) len_is ∙ ap (λ (l : List ℕ). take (length octets) l) flat
      ∙ take-append_seam octets (replicate (payload_room * snapshot_sectors (length octets) - length octets) 0)

  pub zeros_held : AreZeros (drop len (flat_map payload parts))
  zeros_held =
      subst (λ (l : List ℕ). AreZeros l)
      (sym (ap (λ n. drop n (flat_map payload parts)) len_is ∙ ap (λ (l : List ℕ). drop (length octets) l) flat ∙ drop-append_seam octets (replicate (payload_room * snapshot_sectors (length octets) - length octets) 0)))
      (are_zeros (payload_room * snapshot_sectors (length octets) - length octets))
