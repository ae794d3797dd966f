-- Offers that come again, in lists.
use Rattle.std.proofs.Common.{◌≡◌, ◌<◌, ◌+◌, ◌⊎◌, inl, inr, refl, sym, ◌∙◌, ap, subst, ℕ, suc, Bool, true, false, ◌&&◌, nat_eq, List, [], ◌∷◌, ◌++◌, length, get_or, set, Option, Some, None, if◌then◌else◌, arith}
use Rattle.std.specs.Prelude.{All, Contains, IfSome, map, count_by}
use Rattle.std.specs.List.{slice_get}
use Rattle.std.specs.Option.{option_map_or}
use Rattle.std.proofs.lemmas.Bool.{false≢true}
use Rattle.std.proofs.lemmas.List.Elements.{All-head, All-tail, All-nil, All-cons}
use Rattle.std.proofs.lemmas.List.Sums.{sum_by-cons}
use Rattle.std.proofs.lemmas.Option.{get_or_from_slice_get}
use Rattle.pz_match_lists.specs.Increasing.{list_at}
use Rattle.pz_offer.specs.declared.ends.SendOffer.{SendOffer}
use Rattle.pz_offer.specs.declared.ends.ReceiveOffer.{ReceiveOffer}
use Rattle.pz_match.specs.declared.kept.Sending.{Sending}
use Rattle.pz_match.specs.declared.kept.Receiving.{Receiving}
use Rattle.pz_match.specs.Offers.{senders, receivers, sender, receiver}
use Rattle.pz_match.specs.devices.Kept.{free_in, asks_in}
use Rattle.pz_match.specs.devices.Tallies.{GroupsView, HasKey, plus, only_in, receive_part, receives_part, sends_part, yeses, troubled}
use Rattle.pz_match.specs.devices.Holding.{SendKeyed, ReceiveKeyed}
use Rattle.pz_match.specs.devices.Users.{SendsNoted, ReceivesNoted, AskersNoted, asking_wire}
use Rattle.pz_match.specs.devices.Again.{SameSend, SameReceive, ReceiveAgain, Beside, send_again, receive_again, told_again}

get_there : {X : Type 0} (xs : List X) (i : ℕ) (x u : X) → x ≡ get_or xs i x → slice_get xs i ≡ Some u → x ≡ u
get_there xs i x u is at = is ∙ get_or_from_slice_get xs i u x at

-- Lists of which each has its of another

module _ {X Y : Type 0} (P : X → Y → Type 0) where
  pub beside_head : (x : X) (xs : List X) (y : Y) (ys : List Y) → Beside P (x ∷ xs) (y ∷ ys) → P x y
  beside_head x xs y ys b = b.each 0 x y refl refl

  pub beside_tail : (x : X) (xs : List X) (y : Y) (ys : List Y) → Beside P (x ∷ xs) (y ∷ ys) → Beside P xs ys
  beside_tail x xs y ys b = record { long = (let e = b.long in omega (arith, e)); each = λ k u v at to. b.each (suc k) u v at to }

-- up to a place
pub below_next : {X Y : Type 0} (P : X → Y → Type 0) (xs : List X) (ys : List Y) (i : ℕ) (x : X) (y : Y) → x ≡ get_or xs i x → y ≡ get_or ys i y → P x y
    → ((k : ℕ) (u : X) (v : Y) → k < i → slice_get xs k ≡ Some u → slice_get ys k ≡ Some v → P u v) → (k : ℕ) (u : X) (v : Y) → k < i + 1 → slice_get xs k ≡ Some u → slice_get ys k ≡ Some v → P u v
below_next {X} {Y} P xs ys i x y x_is y_is here before k u v lt at to = by (order k i lt)
  where
    order : (k i : ℕ) → k < i + 1 → (k < i) ⊎ (k ≡ i)
    order k i lt = grind arith

    by : (k < i) ⊎ (k ≡ i) → P u v
    by (inl below) = before k u v below at to
    by (inr same) =
        let u_is : x ≡ u = get_there xs i x u x_is (ap (λ n. slice_get xs n) (sym same) ∙ at) in
        let v_is : y ≡ v = get_there ys i y v y_is (ap (λ n. slice_get ys n) (sym same) ∙ to) in
        subst (λ (z : Y). P u z) v_is (subst (λ (z : X). P z y) u_is here)

pub beside_weaker : {X Y : Type 0} (P Q : X → Y → Type 0) (xs : List X) (ys : List Y) → ((x : X) (y : Y) → P x y → Q x y) → Beside P xs ys → Beside Q xs ys
beside_weaker P Q xs ys each b = record { long = b.long; each = λ k x y at to. each x y (b.each k x y at to) }

module _ {X Y : Type 0} (f : X → Y → X) where
  pub told_none : (xs : List X) → told_again f xs [] ≡ xs
  told_none [] = refl
  told_none (x ∷ xs) = refl

  pub told_long : (xs : List X) (ys : List Y) → length (told_again f xs ys) ≡ length xs
  told_long [] ys = refl
  told_long (x ∷ xs) [] = refl
  told_long (x ∷ xs) (y ∷ ys) = let e = told_long xs ys in omega (arith, e)

  -- one more
  pub told_next : (xs : List X) (ys : List Y) (x : X) (y : Y) → length ys < length xs → x ≡ get_or (told_again f xs ys) (length ys) x → set (told_again f xs ys) (length ys) (f x y) ≡ told_again f xs (ys ++ y ∷ [])
  told_next [] ys x y lt is = absurd (omega (arith, lt))
  told_next (z ∷ xs) [] x y lt is = λ i. f (is i) y ∷ sym (told_none xs) i
  told_next (z ∷ xs) (v ∷ ys) x y lt is = ap (λ (us : List X). f z v ∷ us) (told_next xs ys x y (omega (arith, lt)) is)

-- Sends

module _ (p : ℕ) where
  pub again_senders : (ss : List Sending) (os : List SendOffer) → All (λ (s : Sending). s.sender.end.process ≡ p) ss → Beside SameSend ss os → map (λ (s : Sending). s.sender) (told_again send_again ss os) ≡ senders p os
  again_senders [] [] own b = refl
  again_senders [] (o ∷ os) own b = absurd (let e = b.long in omega (arith, e))
  again_senders (s ∷ ss) [] own b = absurd (let e = b.long in omega (arith, e))
  again_senders (s ∷ ss) (o ∷ os) own b =
      let same = beside_head SameSend s ss o os b in
      let mine = All-head (λ (s : Sending). s.sender.end.process ≡ p) s ss own in
      let message = sym same.message in
      let here : (send_again s o).sender ≡ sender p o s.sender.wire = λ i. record { end = record { process = mine i; place = o.place }; wire = s.sender.wire; message = message i; parcel = o.parcel } in
      let later = again_senders ss os (All-tail (λ (s : Sending). s.sender.end.process ≡ p) s ss own) (beside_tail SameSend s ss o os b) in
      (λ i. here i ∷ later i) ∙ ap (λ (w : Option ℕ). option_map_or (λ wire. sender p o wire ∷ []) w [] ++ senders p os) (sym same.wire)

  pub again_receivers : (rs : List Receiving) (os : List ReceiveOffer) → All (λ (r : Receiving). r.receiver.end.process ≡ p) rs → Beside SameReceive rs os → map (λ (r : Receiving). r.receiver) (told_again receive_again rs os) ≡ receivers p os
  again_receivers [] [] own b = refl
  again_receivers [] (o ∷ os) own b = absurd (let e = b.long in omega (arith, e))
  again_receivers (r ∷ rs) [] own b = absurd (let e = b.long in omega (arith, e))
  again_receivers (r ∷ rs) (o ∷ os) own b =
      let same = beside_head SameReceive r rs o os b in
      let mine = All-head (λ (r : Receiving). r.receiver.end.process ≡ p) r rs own in
      let message = sym same.message in let count = sym same.count in let conditional = sym same.conditional in
      let here : (receive_again r o).receiver ≡ receiver p o r.receiver.wire
      = λ i. record { end = record { process = mine i; place = o.place }; wire = r.receiver.wire; message = message i; count = count i; conditional = conditional i } in
      let later = again_receivers rs os (All-tail (λ (r : Receiving). r.receiver.end.process ≡ p) r rs own) (beside_tail SameReceive r rs o os b) in
      (λ i. here i ∷ later i) ∙ ap (λ (w : Option ℕ). option_map_or (λ wire. receiver p o wire ∷ []) w [] ++ receivers p os) (sym same.wire)

-- They are in their groups still

module _ (g : GroupsView) where
  pub again_keyed : (ss : List Sending) (os : List SendOffer) → All (SendKeyed g) ss → Beside SameSend ss os → All (SendKeyed g) (told_again send_again ss os)
  again_keyed [] os keyed b = All-nil (SendKeyed g)
  again_keyed (s ∷ ss) [] keyed b = keyed
  again_keyed (s ∷ ss) (o ∷ os) keyed b =
      let same = beside_head SameSend s ss o os b in
      let here : SendKeyed g (send_again s o) = subst (λ n. HasKey g.groups s.group s.sender.wire s.sender.message n) (sym same.values) (All-head (SendKeyed g) s ss keyed) in
      All-cons (SendKeyed g) (send_again s o) (told_again send_again ss os) here (again_keyed ss os (All-tail (SendKeyed g) s ss keyed) (beside_tail SameSend s ss o os b))

  pub again_heard_keyed : (rs : List Receiving) (os : List ReceiveOffer) → All (ReceiveKeyed g) rs → All (ReceiveKeyed g) (told_again receive_again rs os)
  again_heard_keyed [] os keyed = All-nil (ReceiveKeyed g)
  again_heard_keyed (r ∷ rs) [] keyed = keyed
  again_heard_keyed (r ∷ rs) (o ∷ os) keyed =
      let here : ReceiveKeyed g (receive_again r o) = All-head (ReceiveKeyed g) r rs keyed in
      All-cons (ReceiveKeyed g) (receive_again r o) (told_again receive_again rs os) here (again_heard_keyed rs os (All-tail (ReceiveKeyed g) r rs keyed))

-- They count as before

count_cons : (q : Receiving → Bool) (r : Receiving) (rs : List Receiving) → count_by q (r ∷ rs) ≡ (if q r then 1 else 0) + count_by q rs
count_cons q r rs = sum_by-cons (λ (x : Receiving). if q x then 1 else 0) r rs

pub again_free : (g : ℕ) (rs : List Receiving) (os : List ReceiveOffer) → count_by (free_in g) (told_again receive_again rs os) ≡ count_by (free_in g) rs
again_free g [] os = refl
again_free g (r ∷ rs) [] = refl
again_free g (r ∷ rs) (o ∷ os) =
    count_cons (free_in g) (receive_again r o) (told_again receive_again rs os)
    ∙ (ap (λ n. (if free_in g r then 1 else 0) + n) (again_free g rs os) ∙ sym (count_cons (free_in g) r rs))

pub again_asks : (g : ℕ) (rs : List Receiving) (os : List ReceiveOffer) → count_by (asks_in g) (told_again receive_again rs os) ≡ count_by (asks_in g) rs
again_asks g [] os = refl
again_asks g (r ∷ rs) [] = refl
again_asks g (r ∷ rs) (o ∷ os) =
    count_cons (asks_in g) (receive_again r o) (told_again receive_again rs os)
    ∙ (ap (λ n. (if asks_in g r then 1 else 0) + n) (again_asks g rs os) ∙ sym (count_cons (asks_in g) r rs))

-- none of them asks
pub none_asks_in : (g : ℕ) (rs : List Receiving) (os : List ReceiveOffer) → Beside ReceiveAgain rs os → count_by (asks_in g) rs ≡ 0
none_asks_in g [] os b = refl
none_asks_in g (r ∷ rs) [] b = absurd (let e = b.long in omega (arith, e))
none_asks_in g (r ∷ rs) (o ∷ os) b =
    let free = (beside_head ReceiveAgain r rs o os b).free in
    let here : (if asks_in g r then 1 else 0) ≡ 0 = ap (λ c. if nat_eq r.group g && c then 1 else 0) free ∙ by (nat_eq r.group g) in
    let later = none_asks_in g rs os (beside_tail ReceiveAgain r rs o os b) in
    let whole = count_cons (asks_in g) r rs in
    omega (arith, here, later, whole)
  where
    by : (b : Bool) → ◌≡◌ {A = ℕ} (if b && false then 1 else 0) 0
    by true = refl
    by false = refl

pub again_receives_part : (rs : List Receiving) (os : List ReceiveOffer) (g : ℕ) → receives_part (told_again receive_again rs os) g ≡ receives_part rs g
again_receives_part [] os g = refl
again_receives_part (r ∷ rs) [] g = refl
again_receives_part (r ∷ rs) (o ∷ os) g = ap (plus (receive_part r g)) (again_receives_part rs os g)

pub again_sends_part : (was is : List Receiving) → ((g : ℕ) → count_by (free_in g) is ≡ count_by (free_in g) was) → (ss : List Sending) (os : List SendOffer) → length ss ≡ length os → (g : ℕ) → sends_part is (told_again send_again ss os) g ≡ sends_part was ss g
again_sends_part was is same [] os long g = refl
again_sends_part was is same (s ∷ ss) [] long g = absurd (omega (arith, long))
again_sends_part was is same (s ∷ ss) (o ∷ os) long g =
    let own = same s.group in
    let later = again_sends_part was is same ss os (omega (arith, long)) g in
    λ i. plus (only_in s.group (record { sends = 1; free = 0; own = own i; asking = 0; yes = yeses s.rows; troubles = troubled s.rows }) g) (later i)

-- The process is known as a user of their wires

module _ (users : List (List ℕ)) (n : ℕ) where
  pub again_sends_noted : (ss : List Sending) (os : List SendOffer) → Beside SameSend ss os → ((w : ℕ) → All (λ (s : Sending). s.sender.wire ≡ w → Contains (list_at users w) n) ss) → SendsNoted users n os
  again_sends_noted ss [] b used = All-nil (λ (o : SendOffer). IfSome o.wire (λ w. Contains (list_at users w) n))
  again_sends_noted [] (o ∷ os) b used = absurd (let e = b.long in omega (arith, e))
  again_sends_noted (s ∷ ss) (o ∷ os) b used =
      let same = beside_head SameSend s ss o os b in
      let here : IfSome o.wire (λ w. Contains (list_at users w) n)
      = subst (λ (x : Option ℕ). IfSome x (λ w. Contains (list_at users w) n)) (sym same.wire) (All-head (λ (x : Sending). x.sender.wire ≡ s.sender.wire → Contains (list_at users s.sender.wire) n) s ss (used s.sender.wire) refl) in
      All-cons (λ (o : SendOffer). IfSome o.wire (λ w. Contains (list_at users w) n)) o os here
      (again_sends_noted ss os (beside_tail SameSend s ss o os b) (λ w. All-tail (λ (x : Sending). x.sender.wire ≡ w → Contains (list_at users w) n) s ss (used w)))

  pub again_receives_noted : (rs : List Receiving) (os : List ReceiveOffer) → Beside SameReceive rs os → ((w : ℕ) → All (λ (r : Receiving). r.receiver.wire ≡ w → Contains (list_at users w) n) rs) → ReceivesNoted users n os
  again_receives_noted rs [] b used = All-nil (λ (o : ReceiveOffer). IfSome o.wire (λ w. Contains (list_at users w) n))
  again_receives_noted [] (o ∷ os) b used = absurd (let e = b.long in omega (arith, e))
  again_receives_noted (r ∷ rs) (o ∷ os) b used =
      let same = beside_head SameReceive r rs o os b in
      let here : IfSome o.wire (λ w. Contains (list_at users w) n)
      = subst (λ (x : Option ℕ). IfSome x (λ w. Contains (list_at users w) n)) (sym same.wire) (All-head (λ (x : Receiving). x.receiver.wire ≡ r.receiver.wire → Contains (list_at users r.receiver.wire) n) r rs (used r.receiver.wire) refl) in
      All-cons (λ (o : ReceiveOffer). IfSome o.wire (λ w. Contains (list_at users w) n)) o os here
      (again_receives_noted rs os (beside_tail SameReceive r rs o os b) (λ w. All-tail (λ (x : Receiving). x.receiver.wire ≡ w → Contains (list_at users w) n) r rs (used w)))

  -- none of them has a condition
  pub again_askers_noted : (rs : List Receiving) (os : List ReceiveOffer) → Beside ReceiveAgain rs os → AskersNoted users n os
  again_askers_noted rs [] b = All-nil (λ (o : ReceiveOffer). IfSome (asking_wire o) (λ w. Contains (list_at users w) n))
  again_askers_noted [] (o ∷ os) b = absurd (let e = b.long in omega (arith, e))
  again_askers_noted (r ∷ rs) (o ∷ os) b =
      let again = beside_head ReceiveAgain r rs o os b in
      let none = again.same.conditional ∙ again.free in
      let here : IfSome (asking_wire o) (λ w. Contains (list_at users w) n) = by o.conditional none in
      All-cons (λ (o : ReceiveOffer). IfSome (asking_wire o) (λ w. Contains (list_at users w) n)) o os here (again_askers_noted rs os (beside_tail ReceiveAgain r rs o os b))
    where
      by : (c : Bool) → c ≡ false → IfSome (if c then o.wire else None) (λ w. Contains (list_at users w) n)
      by true is = absurd (false≢true (sym is))
      by false is = tt
