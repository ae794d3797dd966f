-- Which offers stay, and what they count.
use Rattle.std.proofs.Common.{◌≡◌, ◌≤◌, ◌<◌, ◌+◌, ◌-◌, refl, sym, ◌∙◌, ap, subst, ℕ, zero, suc, Bool, true, false, nat_eq, List, [], ◌∷◌, ◌++◌, length, take, drop, replicate, get_or, Option, Some, None, arith}
use Rattle.std.specs.Prelude.{All, map}
use Rattle.std.specs.List.{slice_get}
use Rattle.std.proofs.lemmas.List.{append_assoc, drop_all, drop_more, length-take-le, take-append-drop, take_more}
use Rattle.std.proofs.lemmas.List.Elements.{All-drop, All-head, All-tail, All-take}
use Rattle.pz_offer.specs.declared.ends.SendOffer.{SendOffer}
use Rattle.pz_offer.specs.declared.ends.ReceiveOffer.{ReceiveOffer}
use Rattle.pz_match.specs.declared.groups.Tally.{Tally}
use Rattle.pz_match.specs.declared.kept.Sending.{Sending}
use Rattle.pz_match.specs.declared.kept.Receiving.{Receiving}
use Rattle.pz_match.specs.declared.kept.Stay.{Stay}
use Rattle.pz_match.specs.devices.Again.{Beside, SameReceive, SameSend}
use Rattle.pz_match.specs.devices.Holding.{ReceiveKeyed, SendKeyed}
use Rattle.pz_match.specs.devices.Staying.{MayReceive, MaySend, receive_stay, send_stay, stay_part, stays_part}
use Rattle.pz_match.specs.devices.Tallies.{GroupsView, Follows, HasKey, Moves, Alike, no_tally, nothing, pick, plus, receive_part, receives_part, send_part, sends_part}
use Rattle.pz_match.specs.devices.Updating.{Covers}
use Rattle.pz_match.specs.devices.Kept.{Kept}
use Rattle.pz_match.proofs.Offered.{receives_append, sends_append}
use Rattle.pz_match.proofs.Retold.{beside_head, beside_tail}

-- Each with its, in lists put together

module _ {X Y : Type 0} (P : X → Y → Type 0) where
  pub beside_nil : Beside P [] []
  beside_nil = record { long = refl; each = λ k x y at to. cc }

  pub beside_cons : (x : X) (xs : List X) (y : Y) (ys : List Y) → P x y → Beside P xs ys → Beside P (x ∷ xs) (y ∷ ys)
  beside_cons x xs y ys here later = record { long = (let e = later.long in omega (arith, e)); each = each }
    where
      each : (k : ℕ) (u : X) (v : Y) → slice_get (x ∷ xs) k ≡ Some u → slice_get (y ∷ ys) k ≡ Some v → P u v
      each zero u v at to =
          let u_is : x ≡ u = cc in
          let v_is : y ≡ v = cc in
          subst (λ (z : Y). P u z) v_is (subst (λ (z : X). P z y) u_is here)
      each (suc k) u v at to = later.each k u v at to

  pub beside_append : (xs us : List X) (ys vs : List Y) → Beside P xs ys → Beside P us vs → Beside P (xs ++ us) (ys ++ vs)
  beside_append [] us [] vs first last = last
  beside_append [] us (y ∷ ys) vs first last = absurd (let e = first.long in omega (arith, e))
  beside_append (x ∷ xs) us [] vs first last = absurd (let e = first.long in omega (arith, e))
  beside_append (x ∷ xs) us (y ∷ ys) vs first last = beside_cons x (xs ++ us) y (ys ++ vs) (beside_head P x xs y ys first) (beside_append xs us ys vs (beside_tail P x xs y ys first) last)

  -- one more in front
  pub front_next : (xs : List X) (ys : List Y) (i : ℕ) (x : X) (y : Y) → i < length xs → i < length ys → x ≡ get_or xs i x → y ≡ get_or ys i y → P x y → Beside P (take i xs) (take i ys) → Beside P (take (i + 1) xs) (take (i + 1) ys)
  front_next xs ys i x y lt_x lt_y x_is y_is here before =
      let one : Beside P (get_or xs i x ∷ []) (get_or ys i y ∷ []) = beside_cons (get_or xs i x) [] (get_or ys i y) [] (subst (λ (z : Y). P (get_or xs i x) z) y_is (subst (λ (z : X). P z y) x_is here)) beside_nil in
      subst (λ (us : List X). Beside P us (take (i + 1) ys)) (sym (take_more xs i x lt_x))
      (subst (λ (vs : List Y). Beside P (take i xs ++ get_or xs i x ∷ []) vs) (sym (take_more ys i y lt_y)) (beside_append (take i xs) (get_or xs i x ∷ []) (take i ys) (get_or ys i y ∷ []) before one))

  pub back_none : (xs : List X) (ys : List Y) → Beside P (drop (length xs - 0) xs) (drop (length ys - 0) ys)
  back_none xs ys =
      subst (λ (us : List X). Beside P us (drop (length ys - 0) ys)) (sym (drop_all (length xs - 0) xs (omega arith)))
      (subst (λ (vs : List Y). Beside P [] vs) (sym (drop_all (length ys - 0) ys (omega arith))) beside_nil)

  -- one more behind
  pub back_next : (xs : List X) (ys : List Y) (b : ℕ) (x : X) (y : Y) → b < length xs → b < length ys → x ≡ get_or xs (length xs - b - 1) x → y ≡ get_or ys (length ys - b - 1) y → P x y
      → Beside P (drop (length xs - b) xs) (drop (length ys - b) ys) → Beside P (drop (length xs - (b + 1)) xs) (drop (length ys - (b + 1)) ys)
  back_next xs ys b x y lt_x lt_y x_is y_is here before =
      let one_x : drop (length xs - (b + 1)) xs ≡ x ∷ drop (length xs - b) xs = more xs x lt_x x_is in
      let one_y : drop (length ys - (b + 1)) ys ≡ y ∷ drop (length ys - b) ys = more ys y lt_y y_is in
      subst (λ (us : List X). Beside P us (drop (length ys - (b + 1)) ys)) (sym one_x)
      (subst (λ (vs : List Y). Beside P (x ∷ drop (length xs - b) xs) vs) (sym one_y) (beside_cons x (drop (length xs - b) xs) y (drop (length ys - b) ys) here before))
    where
      more : {Z : Type 0} (zs : List Z) (z : Z) → b < length zs → z ≡ get_or zs (length zs - b - 1) z → drop (length zs - (b + 1)) zs ≡ z ∷ drop (length zs - b) zs
      more {Z} zs z lt is =
          let at : length zs - (b + 1) ≡ length zs - b - 1 = omega arith in
          let next : length zs - b - 1 + 1 ≡ length zs - b = omega (arith, lt) in
          ap (λ n. drop n zs) at ∙ (drop_more zs (length zs - b - 1) z (omega (arith, lt)) ∙ (λ i. sym is i ∷ drop (next i) zs))

-- What those that stay count

pub stays_append : (xs ys : List (Option Stay)) (g : ℕ) → Alike (stays_part (xs ++ ys) g) (plus (stays_part xs g) (stays_part ys g))
stays_append [] ys g = record { sends = omega arith; free = omega arith; own = omega arith; asking = omega arith; yes = omega arith; troubles = omega arith }
stays_append (x ∷ xs) ys g =
    let s = stays_append xs ys g in
    record { sends = omega (arith, s.sends); free = omega (arith, s.free); own = omega (arith, s.own); asking = omega (arith, s.asking); yes = omega (arith, s.yes); troubles = omega (arith, s.troubles) }

others_part : (n g : ℕ) → Alike (stays_part (replicate n None) g) no_tally
others_part zero g = record { sends = omega arith; free = omega arith; own = omega arith; asking = omega arith; yes = omega arith; troubles = omega arith }
others_part (suc n) g =
    let s = others_part n g in
    record { sends = omega (arith, s.sends); free = omega (arith, s.free); own = omega (arith, s.own); asking = omega (arith, s.asking); yes = omega (arith, s.yes); troubles = omega (arith, s.troubles) }

sends_stay : (rs : List Receiving) (ss : List Sending) (g : ℕ) → stays_part (map (send_stay rs) ss) g ≡ sends_part rs ss g
sends_stay rs [] g = refl
sends_stay rs (s ∷ ss) g = ap (plus (send_part rs s g)) (sends_stay rs ss g)

receives_stay : (rs : List Receiving) (g : ℕ) → stays_part (map receive_stay rs) g ≡ receives_part rs g
receives_stay [] g = refl
receives_stay (r ∷ rs) g = ap (plus (receive_part r g)) (receives_stay rs g)

module _ {X : Type 0} (part : List X → ℕ → Tally) (stay : X → Option Stay) (adds : (xs ys : List X) (g : ℕ) → Alike (part (xs ++ ys) g) (plus (part xs g) (part ys g))) (same : (xs : List X) (g : ℕ) → stays_part (map stay xs) g ≡ part xs g) where
  -- the first and the last stay, and those between go
  parted : (a b : GroupsView) (first gone last : List X) (n : ℕ) → Moves a b (part gone) nothing → Moves a b (part (first ++ (gone ++ last))) (stays_part ((map stay first ++ replicate n None) ++ map stay last))
  parted a b first gone last n m g =
      let h = m g in
      let p = adds first (gone ++ last) g in let q = adds gone last g in
      let s = stays_append (map stay first ++ replicate n None) (map stay last) g in let t = stays_append (map stay first) (replicate n None) g in let u = others_part n g in
      let v = same first g in let w = same last g in
      record {
        sends = (let c = ap (λ (x : Tally). x.sends) v in let d = ap (λ (x : Tally). x.sends) w in omega (arith, h.sends, p.sends, q.sends, s.sends, t.sends, u.sends, c, d));
        free = (let c = ap (λ (x : Tally). x.free) v in let d = ap (λ (x : Tally). x.free) w in omega (arith, h.free, p.free, q.free, s.free, t.free, u.free, c, d));
        own = (let c = ap (λ (x : Tally). x.own) v in let d = ap (λ (x : Tally). x.own) w in omega (arith, h.own, p.own, q.own, s.own, t.own, u.own, c, d));
        asking = (let c = ap (λ (x : Tally). x.asking) v in let d = ap (λ (x : Tally). x.asking) w in omega (arith, h.asking, p.asking, q.asking, s.asking, t.asking, u.asking, c, d));
        yes = (let c = ap (λ (x : Tally). x.yes) v in let d = ap (λ (x : Tally). x.yes) w in omega (arith, h.yes, p.yes, q.yes, s.yes, t.yes, u.yes, c, d));
        troubles = (let c = ap (λ (x : Tally). x.troubles) v in let d = ap (λ (x : Tally). x.troubles) w in omega (arith, h.troubles, p.troubles, q.troubles, s.troubles, t.troubles, u.troubles, c, d));
      }

  pub parted_at : (a b : GroupsView) (xs : List X) (f k n : ℕ) → Moves a b (part (take k (drop f xs))) nothing → Moves a b (part xs) (stays_part ((map stay (take f xs) ++ replicate n None) ++ map stay (drop k (drop f xs))))
  parted_at a b xs f k n m =
      let whole : take f xs ++ (take k (drop f xs) ++ drop k (drop f xs)) ≡ xs = ap (λ (ys : List X). take f xs ++ ys) (take-append-drop k (drop f xs)) ∙ take-append-drop f xs in
      subst (λ (ys : List X). Moves a b (part ys) (stays_part ((map stay (take f xs) ++ replicate n None) ++ map stay (drop k (drop f xs))))) whole
      (parted a b (take f xs) (take k (drop f xs)) (drop k (drop f xs)) n m)

pub parted_sends : (rs : List Receiving) (a b : GroupsView) (ss : List Sending) (f k n : ℕ) → Moves a b (sends_part rs (take k (drop f ss))) nothing
    → Moves a b (sends_part rs ss) (stays_part ((map (send_stay rs) (take f ss) ++ replicate n None) ++ map (send_stay rs) (drop k (drop f ss))))
parted_sends rs = parted_at (sends_part rs) (send_stay rs) (sends_append rs) (sends_stay rs)

pub parted_receives : (a b : GroupsView) (rs : List Receiving) (f k n : ℕ) → Moves a b (receives_part (take k (drop f rs))) nothing
    → Moves a b (receives_part rs) (stays_part ((map receive_stay (take f rs) ++ replicate n None) ++ map receive_stay (drop k (drop f rs))))
parted_receives = parted_at receives_part receive_stay receives_append receives_stay

-- one more
pub stays_next : (plan : List (Option Stay)) (i : ℕ) (x : Option Stay) → i < length plan → x ≡ get_or plan i x → (g : ℕ) → Alike (stays_part (take (i + 1) plan) g) (plus (stays_part (take i plan) g) (stay_part x g))
stays_next plan i x lt is g =
    subst (λ (xs : List (Option Stay)). Alike (stays_part xs g) (plus (stays_part (take i plan) g) (stay_part x g))) (sym (take_more plan i x lt ∙ ap (λ (y : Option Stay). take i plan ++ y ∷ []) (sym is)))
    (let s = stays_append (take i plan) (x ∷ []) g in
    record { sends = omega (arith, s.sends); free = omega (arith, s.free); own = omega (arith, s.own); asking = omega (arith, s.asking); yes = omega (arith, s.yes); troubles = omega (arith, s.troubles) })

-- They have the marks of the new ones

module _ {X Y : Type 0} (Same : X → Y → Type 0) (Keyed : X → Type 0) (stay : X → Option Stay) (May : Option Stay → Y → Type 0) (one : (x : X) (y : Y) → Same x y → Keyed x → May (stay x) y) (none : (y : Y) → May None y) where
  may_stay : (xs : List X) (ys : List Y) → Beside Same xs ys → All Keyed xs → Beside May (map stay xs) ys
  may_stay [] [] b keyed = beside_nil May
  may_stay [] (y ∷ ys) b keyed = absurd (let e = b.long in omega (arith, e))
  may_stay (x ∷ xs) [] b keyed = absurd (let e = b.long in omega (arith, e))
  may_stay (x ∷ xs) (y ∷ ys) b keyed = beside_cons May (stay x) (map stay xs) y ys (one x y (beside_head Same x xs y ys b) (All-head Keyed x xs keyed)) (may_stay xs ys (beside_tail Same x xs y ys b) (All-tail Keyed x xs keyed))

  may_come : (n : ℕ) (ys : List Y) → length ys ≡ n → Beside May (replicate n None) ys
  may_come zero [] long = beside_nil May
  may_come zero (y ∷ ys) long = absurd (omega (arith, long))
  may_come (suc n) [] long = absurd (omega (arith, long))
  may_come (suc n) (y ∷ ys) long = beside_cons May None (replicate n None) y ys (none y) (may_come n ys (omega (arith, long)))

  pub may_be : (xs : List X) (ys : List Y) (f k n : ℕ) → n ≤ length (drop f ys) → Beside Same (take f xs) (take f ys) → Beside Same (drop k (drop f xs)) (drop n (drop f ys)) → All Keyed xs
      → Beside May ((map stay (take f xs) ++ replicate n None) ++ map stay (drop k (drop f xs))) ys
  may_be xs ys f k n le first last keyed =
      let whole : (take f ys ++ take n (drop f ys)) ++ drop n (drop f ys) ≡ ys
      = append_assoc (take f ys) (take n (drop f ys)) (drop n (drop f ys)) ∙ (ap (λ (us : List Y). take f ys ++ us) (take-append-drop n (drop f ys)) ∙ take-append-drop f ys) in
      subst (Beside May ((map stay (take f xs) ++ replicate n None) ++ map stay (drop k (drop f xs)))) whole
      (beside_append May (map stay (take f xs) ++ replicate n None) (map stay (drop k (drop f xs))) (take f ys ++ take n (drop f ys)) (drop n (drop f ys))
      (beside_append May (map stay (take f xs)) (replicate n None) (take f ys) (take n (drop f ys)) (may_stay (take f xs) (take f ys) first (All-take Keyed f xs keyed)) (may_come n (take n (drop f ys)) (length-take-le n (drop f ys) le)))
      (may_stay (drop k (drop f xs)) (drop n (drop f ys)) last (All-drop Keyed k (drop f xs) (All-drop Keyed f xs keyed))))

pub may_send : (g : GroupsView) (rs : List Receiving) (ss : List Sending) (os : List SendOffer) (f k n : ℕ) → n ≤ length (drop f os) → Beside SameSend (take f ss) (take f os) → Beside SameSend (drop k (drop f ss)) (drop n (drop f os)) → All (SendKeyed g) ss
    → Beside (MaySend g) ((map (send_stay rs) (take f ss) ++ replicate n None) ++ map (send_stay rs) (drop k (drop f ss))) os
may_send g rs = may_be SameSend (SendKeyed g) (send_stay rs) (MaySend g) one (λ o. tt)
  where
    one : (s : Sending) (o : SendOffer) → SameSend s o → SendKeyed g s → MaySend g (send_stay rs s) o
    one s o same key = record {
      wire = s.sender.wire;
      wire_is = same.wire;
      keyed = subst (λ (m : List ℕ). HasKey g.groups s.group s.sender.wire m (length o.parcel.values)) (sym same.message) (subst (λ n. HasKey g.groups s.group s.sender.wire s.sender.message n) (sym same.values) key);
      asks_not = refl;
    }

pub may_receive : (g : GroupsView) (rs : List Receiving) (os : List ReceiveOffer) (f k n : ℕ) → n ≤ length (drop f os) → Beside SameReceive (take f rs) (take f os) → Beside SameReceive (drop k (drop f rs)) (drop n (drop f os)) → All (ReceiveKeyed g) rs
    → Beside (MayReceive g) ((map receive_stay (take f rs) ++ replicate n None) ++ map receive_stay (drop k (drop f rs))) os
may_receive g = may_be SameReceive (ReceiveKeyed g) receive_stay (MayReceive g) one (λ o. tt)
  where
    one : (r : Receiving) (o : ReceiveOffer) → SameReceive r o → ReceiveKeyed g r → MayReceive g (receive_stay r) o
    one r o same key = record {
      wire = r.receiver.wire;
      wire_is = same.wire;
      keyed = subst (λ (m : List ℕ). HasKey g.groups r.group r.receiver.wire m o.count) (sym same.message) (subst (λ n. HasKey g.groups r.group r.receiver.wire r.receiver.message n) (sym same.count) key);
    }

-- Groups go on

pub may_send_still : (a b : GroupsView) → Follows a b → (stay : Option Stay) (o : SendOffer) → MaySend a stay o → MaySend b stay o
may_send_still a b f None o may = may
may_send_still a b f (Some s) o may = record { wire = may.wire; wire_is = may.wire_is; keyed = f.marks s.group may.wire o.message (length o.parcel.values) may.keyed; asks_not = may.asks_not }

pub may_receive_still : (a b : GroupsView) → Follows a b → (stay : Option Stay) (o : ReceiveOffer) → MayReceive a stay o → MayReceive b stay o
may_receive_still a b f None o may = may
may_receive_still a b f (Some s) o may = record { wire = may.wire; wire_is = may.wire_is; keyed = f.marks s.group may.wire o.message o.count may.keyed }

-- sends that stay do not ask
pub asks_nothing : (a : GroupsView) (plan : List (Option Stay)) (os : List SendOffer) → Beside (MaySend a) plan os → (i g : ℕ) → (stays_part (take i plan) g).asking ≡ 0
asks_nothing a plan os b zero g = refl
asks_nothing a [] os b (suc i) g = refl
asks_nothing a (x ∷ plan) [] b (suc i) g = absurd (let e = b.long in omega (arith, e))
asks_nothing a (x ∷ plan) (o ∷ os) b (suc i) g =
    let here = one x (beside_head (MaySend a) x plan o os b) in
    let later = asks_nothing a plan os (beside_tail (MaySend a) x plan o os b) i g in
    omega (arith, here, later)
  where
    one : (stay : Option Stay) → MaySend a stay o → (stay_part stay g).asking ≡ 0
    one None may = refl
    one (Some s) may = by (nat_eq s.group g)
      where
        by : (c : Bool) → (pick c s.tally).asking ≡ 0
        by true = may.asks_not
        by false = refl

pub covers_still : (a b : GroupsView) (all : List Kept) (less more : ℕ → Tally) → Covers a all → Moves a b less more → ((g : ℕ) → (less g).asking ≡ 0) → Covers b all
covers_still a b all less more covers moves none g = let c = covers g in let m = (moves g).asking in let n = none g in omega (arith, c, m, n)
