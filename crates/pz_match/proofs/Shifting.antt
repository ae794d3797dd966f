-- Offers that go from the shares, or come.
use Rattle.std.proofs.Common.{◌≡◌, ◌<◌, ◌+◌, refl, sym, ◌∙◌, ap, ℕ, Bool, true, false, nat_eq, List, [], ◌∷◌, length, drop, get_or, arith}
use Rattle.std.proofs.lemmas.List.{drop_more}
use Rattle.pz_match_lists.specs.declared.shares.Part.{Part}
use Rattle.pz_match_lists.specs.Shares.{share_at}
use Rattle.pz_match.specs.declared.groups.Tally.{Tally}
use Rattle.pz_match.specs.declared.kept.Sending.{Sending}
use Rattle.pz_match.specs.declared.kept.Receiving.{Receiving}
use Rattle.pz_match.specs.declared.sharing.Way.{Way}
use Rattle.pz_match.specs.declared.sharing.Way.TheVariants.{Off, On}
use Rattle.pz_match.specs.devices.Tallies.{nothing, plus, pick, only_in, send_tally, receive_tally, send_part, sends_part, receive_part, receives_part}
use Rattle.pz_match.specs.devices.Sharing.{side, Shifted, Shifts}

-- What is alike in shares

pub record Close (a b : Tally) : Type 0 where
  pub sends : a.sends ≡ b.sends
  pub free : a.free ≡ b.free
  pub own : a.own ≡ b.own

pub close_same : (a b : Tally) → a ≡ b → Close a b
close_same a b is = record { sends = ap (λ (t : Tally). t.sends) is; free = ap (λ (t : Tally). t.free) is; own = ap (λ (t : Tally). t.own) is }

pub close_pick : (c : Bool) (a b : Tally) → Close a b → Close (pick c a) (pick c b)
close_pick true a b h = h
close_pick false a b h = record { sends = refl; free = refl; own = refl }

-- One after the other

module _ (block : ℕ) (way : Way) (a b c : List (List Part)) where
  -- a part goes over
  pub shifts_next : (whole rest one left : ℕ → Tally) → ((g : ℕ) → Close (rest g) (plus (one g) (left g)))
      → Shifts block a b (side way whole rest) (side way rest whole) → Shifts block b c (side way one nothing) (side way nothing one) → Shifts block a c (side way whole left) (side way left whole)
  shifts_next whole rest one left adds m n g k = by way (nat_eq block k) (m g k) (n g k)
    where
      h : Close (rest g) (plus (one g) (left g))
      h = adds g

      by : (w : Way) (t : Bool) → Shifted (share_at b g k) (share_at a g k) (pick t (side w whole rest g)) (pick t (side w rest whole g)) → Shifted (share_at c g k) (share_at b g k) (pick t (side w one nothing g)) (pick t (side w nothing one g))
          → Shifted (share_at c g k) (share_at a g k) (pick t (side w whole left g)) (pick t (side w left whole g))
      by Off true p q = record { sends = omega (arith, h.sends, p.sends, q.sends); free = omega (arith, h.free, p.free, q.free); own = omega (arith, h.own, p.own, q.own) }
      by On true p q = record { sends = omega (arith, h.sends, p.sends, q.sends); free = omega (arith, h.free, p.free, q.free); own = omega (arith, h.own, p.own, q.own) }
      by Off false p q = record { sends = omega (arith, p.sends, q.sends); free = omega (arith, p.free, q.free); own = omega (arith, p.own, q.own) }
      by On false p q = record { sends = omega (arith, p.sends, q.sends); free = omega (arith, p.free, q.free); own = omega (arith, p.own, q.own) }

  -- two parts go over
  pub shifts_both : (one other both : ℕ → Tally) → ((g : ℕ) → Close (both g) (plus (one g) (other g)))
      → Shifts block a b (side way one nothing) (side way nothing one) → Shifts block b c (side way other nothing) (side way nothing other) → Shifts block a c (side way both nothing) (side way nothing both)
  shifts_both one other both adds m n g k = by way (nat_eq block k) (m g k) (n g k)
    where
      h : Close (both g) (plus (one g) (other g))
      h = adds g

      by : (w : Way) (t : Bool) → Shifted (share_at b g k) (share_at a g k) (pick t (side w one nothing g)) (pick t (side w nothing one g)) → Shifted (share_at c g k) (share_at b g k) (pick t (side w other nothing g)) (pick t (side w nothing other g))
          → Shifted (share_at c g k) (share_at a g k) (pick t (side w both nothing g)) (pick t (side w nothing both g))
      by Off true p q = record { sends = omega (arith, h.sends, p.sends, q.sends); free = omega (arith, h.free, p.free, q.free); own = omega (arith, h.own, p.own, q.own) }
      by On true p q = record { sends = omega (arith, h.sends, p.sends, q.sends); free = omega (arith, h.free, p.free, q.free); own = omega (arith, h.own, p.own, q.own) }
      by Off false p q = record { sends = omega (arith, p.sends, q.sends); free = omega (arith, p.free, q.free); own = omega (arith, p.own, q.own) }
      by On false p q = record { sends = omega (arith, p.sends, q.sends); free = omega (arith, p.free, q.free); own = omega (arith, p.own, q.own) }

pub shifts_none : (block : ℕ) (way : Way) (a : List (List Part)) (whole : ℕ → Tally) → Shifts block a a (side way whole whole) (side way whole whole)
shifts_none block way a whole g k = by way
  where
    by : (w : Way) → Shifted (share_at a g k) (share_at a g k) (pick (nat_eq block k) (side w whole whole g)) (pick (nat_eq block k) (side w whole whole g))
    by Off = record { sends = refl; free = refl; own = refl }
    by On = record { sends = refl; free = refl; own = refl }

-- One offer

pub sends_next : (rs : List Receiving) (ss : List Sending) (i : ℕ) (s : Sending) (t : Tally) → i < length ss → s ≡ get_or ss i s → t ≡ send_tally rs s.group []
    → (g : ℕ) → Close (sends_part rs (drop i ss) g) (plus (only_in s.group t g) (sends_part rs (drop (i + 1) ss) g))
sends_next rs ss i s t lt is tally g =
    let first : drop i ss ≡ s ∷ drop (i + 1) ss = drop_more ss i s lt ∙ ap (λ (x : Sending). x ∷ drop (i + 1) ss) (sym is) in
    let here : Close (send_part rs s g) (only_in s.group t g) = close_pick (nat_eq s.group g) (send_tally rs s.group s.rows) t (record { sends = ap (λ (x : Tally). x.sends) (sym tally); free = ap (λ (x : Tally). x.free) (sym tally); own = ap (λ (x : Tally). x.own) (sym tally) }) in
    let e = close_same _ _ (ap (λ (xs : List Sending). sends_part rs xs g) first) in
    record { sends = omega (arith, e.sends, here.sends); free = omega (arith, e.free, here.free); own = omega (arith, e.own, here.own) }

pub receives_next : (rs : List Receiving) (i : ℕ) (r : Receiving) (t : Tally) → i < length rs → r ≡ get_or rs i r → t ≡ receive_tally r.receiver.conditional
    → (g : ℕ) → Close (receives_part (drop i rs) g) (plus (only_in r.group t g) (receives_part (drop (i + 1) rs) g))
receives_next rs i r t lt is tally g =
    let first : drop i rs ≡ r ∷ drop (i + 1) rs = drop_more rs i r lt ∙ ap (λ (x : Receiving). x ∷ drop (i + 1) rs) (sym is) in
    let here : Close (receive_part r g) (only_in r.group t g) = close_pick (nat_eq r.group g) (receive_tally r.receiver.conditional) t (close_same (receive_tally r.receiver.conditional) t (sym tally)) in
    let e = close_same _ _ (ap (λ (xs : List Receiving). receives_part xs g) first) in
    record { sends = omega (arith, e.sends, here.sends); free = omega (arith, e.free, here.free); own = omega (arith, e.own, here.own) }
