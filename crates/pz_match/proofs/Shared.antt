-- The shares of blocks after an update.
use Rattle.std.proofs.Common.{◌≡◌, ◌≢◌, ◌≤◌, ◌<◌, ◌+◌, ◌-◌, ◌*◌, ◌/◌, ◌⊎◌, inl, inr, refl, sym, ◌∙◌, ap, ℕ, Bool, true, false, nat_eq, List, [], ◌∷◌, length, take, drop, get_or, set, Some, arith}
use Rattle.std.specs.Prelude.{map}
use Rattle.std.specs.List.{slice_get}
use Rattle.std.proofs.lemmas.Option.{slice_get-get_or}
use Rattle.std.proofs.lemmas.Bool.{eqb-true, eqb-false}
use Rattle.std.proofs.lemmas.List.{take-map, drop-map, drop-set-lt, drop-set-add, take-set-le, length-take, length-drop, length-map, get_or-drop, get_or-take, get_or-map}
use Rattle.std.proofs.Math.Seq.{take-set-lt}
use Rattle.pz_match_lists.specs.declared.shares.Part.{Part}
use Rattle.pz_match_lists.specs.Shares.{share_at}
use Rattle.pz_offer.specs.declared.ends.SendOffer.{SendOffer}
use Rattle.pz_offer.specs.declared.ends.ReceiveOffer.{ReceiveOffer}
use Rattle.pz_match.specs.declared.kept.Sending.{Sending}
use Rattle.pz_match.specs.declared.kept.Receiving.{Receiving}
use Rattle.pz_match.specs.Judging.{Verdicts}
use Rattle.pz_match.specs.devices.Kept.{Kept}
use Rattle.pz_match.specs.devices.Tallies.{GroupsView, no_tally, nothing, plus, pick, send_tally, send_part, sends_part, part_of, total_of}
use Rattle.pz_match.specs.devices.Asking.{renewed}
use Rattle.pz_match.specs.devices.Updating.{Replaced, renewed_in, other_offers, silent}
use Rattle.pz_match.specs.devices.Sharing.{block_of, IsShare, Shared, Shifted, Shifts}
use Rattle.pz_match.proofs.Replacing.{total_set, new_here, new_length}
use Rattle.pz_match.proofs.Shifting.{Close, close_same, close_pick}

-- A block in which a process is replaced

module _ (all : List Kept) (p c : ℕ) (y : Kept) where
  pub block_apart : nat_eq (p / 64) c ≡ false → block_of c (set all p y) ≡ block_of c all
  block_apart other = by (split p c (eqb-false (p / 64) c other))
    where
      split : (p c : ℕ) → p / 64 ≢ c → (p < 64 * c) ⊎ (64 * c + 64 ≤ p)
      split p c ne = grind arith

      by : (p < 64 * c) ⊎ (64 * c + 64 ≤ p) → block_of c (set all p y) ≡ block_of c all
      by (inl before) = ap (take 64) (drop-set-lt (64 * c) all p y before)
      by (inr behind) =
          let at : p ≡ 64 * c + (p - 64 * c) = omega (arith, behind) in
          ap (λ n. take 64 (drop (64 * c) (set all n y))) at
          ∙ (ap (take 64) (drop-set-add (64 * c) all (p - 64 * c) y) ∙ take-set-le 64 (drop (64 * c) all) (p - 64 * c) y (omega (arith, behind)))

  module _ (same : nat_eq (p / 64) c ≡ true) where
    within : (64 * c ≤ p) × (p < 64 * c + 64)
    within = let e : p / 64 ≡ c = eqb-true (p / 64) c same in (omega (arith, e), omega (arith, e))

    pub block_here : block_of c (set all p y) ≡ set (block_of c all) (p - 64 * c) y
    block_here =
        let at : p ≡ 64 * c + (p - 64 * c) = omega (arith, within.0) in
        ap (λ n. take 64 (drop (64 * c) (set all n y))) at
        ∙ (ap (take 64) (drop-set-add (64 * c) all (p - 64 * c) y) ∙ take-set-lt 64 (drop (64 * c) all) (p - 64 * c) y (omega (arith, within.0, within.1)))

    pub place_here : p < length all → p - 64 * c < length (block_of c all)
    place_here lt = omega (arith, lt, within.0, within.1, length-take 64 (drop (64 * c) all), length-drop (64 * c) all)

    pub item_here : (d : Kept) → get_or (block_of c all) (p - 64 * c) d ≡ get_or all p d
    item_here d =
        let at : 64 * c + (p - 64 * c) ≡ p = omega (arith, within.0) in
        get_or-take 64 (drop (64 * c) all) (p - 64 * c) d (omega (arith, within.0, within.1)) ∙ (get_or-drop (64 * c) all (p - 64 * c) d ∙ ap (λ n. get_or all n d) at)

-- what is in the block of this process
pub block_total : (g c p : ℕ) (all : List Kept) (x y : Kept) → p < length all → x ≡ get_or all p x
    → Close (plus (total_of (block_of c (set all p y)) g) (pick (nat_eq (p / 64) c) (part_of x g))) (plus (total_of (block_of c all) g) (pick (nat_eq (p / 64) c) (part_of y g)))
block_total g c p all x y lt is = by (nat_eq (p / 64) c) refl
  where
    by : (t : Bool) → nat_eq (p / 64) c ≡ t → Close (plus (total_of (block_of c (set all p y)) g) (pick t (part_of x g))) (plus (total_of (block_of c all) g) (pick t (part_of y g)))
    by true same =
        let h = total_set g (block_of c all) (p - 64 * c) x y (place_here all p c y same lt) (is ∙ sym (item_here all p c y same x)) in
        let e = close_same _ _ (ap (λ (xs : List Kept). total_of xs g) (block_here all p c y same)) in
        record { sends = omega (arith, h.sends, e.sends); free = omega (arith, h.free, e.free); own = omega (arith, h.own, e.own) }
    by false other =
        let e = close_same _ _ (ap (λ (xs : List Kept). total_of xs g) (block_apart all p c y other)) in
        record { sends = omega (arith, e.sends); free = omega (arith, e.free); own = omega (arith, e.own) }

-- Verdicts do not count

module _ (says : Verdicts) (p : ℕ) (rs : List Receiving) (g : ℕ) where
  sends_close : (own : List Receiving) (ss : List Sending) → Close (sends_part own (map (renewed says p rs) ss) g) (sends_part own ss g)
  sends_close own [] = record { sends = refl; free = refl; own = refl }
  sends_close own (s ∷ ss) =
      let here : Close (send_part own (renewed says p rs s) g) (send_part own s g) = close_pick (nat_eq s.group g) (send_tally own s.group (renewed says p rs s).rows) (send_tally own s.group s.rows) (record { sends = refl; free = refl; own = refl }) in
      let later = sends_close own ss in
      record { sends = omega (arith, here.sends, later.sends); free = omega (arith, here.free, later.free); own = omega (arith, here.own, later.own) }

  pub part_close : (e : Kept) → Close (part_of (renewed_in says p rs e) g) (part_of e g)
  part_close e = let h = sends_close e.receives e.sends in record { sends = omega (arith, h.sends); free = omega (arith, h.free); own = omega (arith, h.own) }

  total_close : (xs : List Kept) → Close (total_of (map (renewed_in says p rs) xs) g) (total_of xs g)
  total_close [] = record { sends = refl; free = refl; own = refl }
  total_close (e ∷ xs) =
      let here = part_close e in
      let later = total_close xs in
      record { sends = omega (arith, here.sends, later.sends); free = omega (arith, here.free, later.free); own = omega (arith, here.own, later.own) }

  pub block_close : (c : ℕ) (all : List Kept) → Close (total_of (block_of c (map (renewed_in says p rs) all)) g) (total_of (block_of c all) g)
  block_close c all =
      let moved : block_of c (map (renewed_in says p rs) all) ≡ map (renewed_in says p rs) (block_of c all) = ap (take 64) (drop-map (renewed_in says p rs) (64 * c) all) ∙ take-map (renewed_in says p rs) 64 (drop (64 * c) all) in
      let e = close_same _ _ (ap (λ (xs : List Kept). total_of xs g) moved) in
      let h = total_close (block_of c all) in
      record { sends = omega (arith, e.sends, h.sends); free = omega (arith, e.free, h.free); own = omega (arith, e.own, h.own) }

-- After an update

module _ (says : Verdicts) (p : ℕ) (sends : List SendOffer) (receives : List ReceiveOffer) (g0 g1 : GroupsView) (all new : List Kept) (r : Replaced says p sends receives g0 all g1 new) (below : p < length all)
    (a b c : List (List Part)) (shared : Shared a all) (old : Kept) (is : old ≡ get_or all p old) where
  abbrev now : Kept
  now = record { process = p; sends = r.sent; receives = r.heard }

  pub shared_after : Shifts (p / 64) a b (part_of old) nothing → Shifts (p / 64) b c nothing (part_of (record { process = p; sends = r.sent; receives = r.heard })) → Shared c new
  shared_after off on g k =
      let mid = map (renewed_in says p r.heard) all in
      let x = renewed_in says p r.heard old in
      let there : x ≡ get_or mid p x = sym (get_or-map (renewed_in says p r.heard) all p old x below ∙ ap (renewed_in says p r.heard) (sym is)) in
      let whole = block_total g k p mid x now (omega (arith, below, length-map all (renewed_in says p r.heard))) there in
      let same = close_pick (nat_eq (p / 64) k) (part_of x g) (part_of old g) (part_close says p r.heard g old) in
      let quiet = block_close says p r.heard g k all in
      let end = close_same _ _ (ap (λ (xs : List Kept). total_of (block_of k xs) g) r.is) in
      by (nat_eq (p / 64) k) (shared g k) (off g k) (on g k) whole same quiet end
    where
      by : (t : Bool) → IsShare (share_at a g k) (total_of (block_of k all) g) → Shifted (share_at b g k) (share_at a g k) (pick t (part_of old g)) (pick t (nothing g)) → Shifted (share_at c g k) (share_at b g k) (pick t (nothing g)) (pick t (part_of now g))
          → Close (plus (total_of (block_of k (set (map (renewed_in says p r.heard) all) p now)) g) (pick t (part_of (renewed_in says p r.heard old) g))) (plus (total_of (block_of k (map (renewed_in says p r.heard) all)) g) (pick t (part_of now g)))
          → Close (pick t (part_of (renewed_in says p r.heard old) g)) (pick t (part_of old g))
          → Close (total_of (block_of k (map (renewed_in says p r.heard) all)) g) (total_of (block_of k all) g)
          → Close (total_of (block_of k new) g) (total_of (block_of k (set (map (renewed_in says p r.heard) all) p now)) g)
          → IsShare (share_at c g k) (total_of (block_of k new) g)
      by true s f n w m q e = record {
        sends = omega (arith, s.sends, f.sends, n.sends, w.sends, m.sends, q.sends, e.sends);
        free = omega (arith, s.free, f.free, n.free, w.free, m.free, q.free, e.free);
        own = omega (arith, s.own, f.own, n.own, w.own, m.own, q.own, e.own);
      }
      by false s f n w m q e = record {
        sends = omega (arith, s.sends, f.sends, n.sends, w.sends, m.sends, q.sends, e.sends);
        free = omega (arith, s.free, f.free, n.free, w.free, m.free, q.free, e.free);
        own = omega (arith, s.own, f.own, n.own, w.own, m.own, q.own, e.own);
      }

-- its new offers are there
pub new_at : (says : Verdicts) (p : ℕ) (sends : List SendOffer) (receives : List ReceiveOffer) (g0 g1 : GroupsView) (all new : List Kept) (r : Replaced says p sends receives g0 all g1 new) → p < length all
    → slice_get new p ≡ Some (record { process = p; sends = r.sent; receives = r.heard })
new_at says p sends receives g0 g1 all new r below =
    ap (λ (xs : List Kept). slice_get xs p) r.is
    ∙ (slice_get-get_or (other_offers says p r.sent r.heard all) p (silent p) (omega (arith, below, new_length says p r.sent r.heard all below))
    ∙ ap (λ (e : Kept). Some e) (new_here says p r.sent r.heard all below (silent p)))

-- Nobody has offered anything yet
pub none_shared : (ns : List ℕ) → Shared [] (map silent ns)
none_shared ns g b =
    let moved : block_of b (map silent ns) ≡ map silent (take 64 (drop (64 * b) ns)) = ap (take 64) (drop-map silent (64 * b) ns) ∙ take-map silent 64 (drop (64 * b) ns) in
    let e = close_same _ _ (ap (λ (xs : List Kept). total_of xs g) moved) in
    let h = zero (take 64 (drop (64 * b) ns)) in
    record { sends = omega (arith, e.sends, h.sends); free = omega (arith, e.free, h.free); own = omega (arith, e.own, h.own) }
  where
    zero : (ms : List ℕ) → Close (total_of (map silent ms) g) no_tally
    zero [] = record { sends = refl; free = refl; own = refl }
    zero (m ∷ ms) = let h = zero ms in record { sends = omega (arith, h.sends); free = omega (arith, h.free); own = omega (arith, h.own) }
