-- What is added for one part.
use Rattle.std.proofs.Common.{◌≡◌, ℕ, zero, suc, List, [], ◌∷◌, ◌++◌, map, Bool, false, Option, Some, None, Vec, refl, sym, subst, ap, ◌∙◌, append-nil}
use Rattle.std.specs.List.{cons_option}
use Rattle.std.specs.declared.alloc.Global.{Global}
use Rattle.pz_classes_code.specs.pz_syntax.declared.tokens.Pos.{Pos}
use Rattle.pz_rules.specs.pz_copy.Parcels.{ParcelView}
use Rattle.pz_rules.specs.pz_copy.Packing.{IsParcelOf}
use Rattle.pz_rules.specs.pz_offer.PlaceOrder.{Place}
use Rattle.pz_rules.specs.pz_offer.declared.trouble.Trouble.{Trouble}
use Rattle.pz_rules.specs.declared.action.Kind.{Kind}
use Rattle.pz_rules.specs.declared.action.Kind.TheVariants.{Expire}
use Rattle.pz_rules.specs.Terms.{Term}
use Rattle.pz_rules.specs.Settings.{Context}
use Rattle.pz_rules.specs.devices.Walk as walk
use Rattle.pz_rules.specs.devices.Walk.{ActivePart, here, Noted, noted_at, noted, does, sent_by, received_by, waiting, troubled_by, doing, expiry}
use Rattle.pz_term_enabled.specs.declared.found.Doing.{Doing}
use Rattle.pz_term_enabled.specs.declared.found.ActiveSend.{ActiveSend}
use Rattle.pz_term_enabled.specs.declared.found.ActiveReceive.{ActiveReceive}
use Rattle.pz_term_enabled.specs.declared.found.Found.{Found}
use Rattle.pz_term_enabled.specs.devices.Walked.{doing_view, receiving_view, CarryAll, whats, has_begun, IsFew}
use Rattle.pz_term_enabled.specs.devices.Listings.{below, Adds, Notes, notes_of, nothing, only_does, only_waits, only_troubles, only_receives}

-- what is noted at this place, if something is
abbrev one : {X : Type 0} → Place → Option X → List (Noted X)
one place None = []
one place (Some x) = record { place = place; what = x } ∷ []

abbrev just : {X : Type 0} → Option X → List X
just None = []
just (Some x) = x ∷ []

one_is : {X : Type 0} (h : ℕ → Term → Option X) (place : Place) (f : ℕ) (t : Term) → map (below place) (noted h (here f t ∷ [])) ≡ one place (h f t)
one_is {X} h place f t = by (h f t)
  where
    by : (o : Option X) → map (below place) (cons_option (noted_at [] o) []) ≡ one place o
    by None = refl
    by (Some x) = ap (λ (p : Place). let n : Noted X = record { place = p; what = x } in n ∷ []) (append-nil place)

just_is : {X : Type 0} (h : ℕ → Term → Option X) (f : ℕ) (t : Term) → whats (noted h (here f t ∷ [])) ≡ just (h f t)
just_is {X} h f t = by (h f t)
  where
    by : (o : Option X) → whats (cons_option (noted_at [] o) []) ≡ just o
    by None = refl
    by (Some x) = refl

-- the lists have grown by what is noted
pub record Grows (place : Place) (x : Notes) (o n : Found) : Type 0 where
  pub internal : map doing_view n.internal.items ≡ map doing_view o.internal.items ++ one place x.does
  pub more : List ActiveSend
  pub sends : n.sends.items ≡ o.sends.items ++ more
  pub carried : CarryAll more (one place x.sends)
  pub receives : map receiving_view n.receives.items ≡ map receiving_view o.receives.items ++ one place x.receives
  pub delays : n.delays.items ≡ o.delays.items ++ just x.left
  pub troubles : n.troubles.items ≡ o.troubles.items ++ just x.trouble

pub adds_one : (a : Context) (place : Place) (f : ℕ) (t : Term) (x : Notes) (o n : Found) → notes_of a f t ≡ x → Grows place x o n → (has_begun t ≡ false → IsFew x.left) → Adds a place (here f t ∷ []) o n
adds_one a place f t x o n is grows few = record {
  internal = grows.internal ∙ ap (λ (l : List (Noted walk.Doing)). map doing_view o.internal.items ++ l) (ap (λ (y : Notes). one place y.does) (sym is) ∙ sym (one_is (does a) place f t));
  sends = record {
    more = grows.more;
    added = grows.sends;
    carried = subst (λ (l : List (Noted walk.ActiveSend)). CarryAll grows.more l) (ap (λ (y : Notes). one place y.sends) (sym is) ∙ sym (one_is (sent_by a) place f t)) grows.carried;
  };
  receives = grows.receives ∙ ap (λ (l : List (Noted walk.ActiveReceive)). map receiving_view o.receives.items ++ l) (ap (λ (y : Notes). one place y.receives) (sym is) ∙ sym (one_is (λ f. received_by) place f t));
  delays = grows.delays ∙ ap (λ (l : List ℕ). o.delays.items ++ l) (ap (λ (y : Notes). just y.left) (sym is) ∙ sym (just_is (waiting a) f t));
  troubles = grows.troubles ∙ ap (λ (l : List Trouble). o.troubles.items ++ l) (ap (λ (y : Notes). just y.trouble) (sym is) ∙ sym (just_is (troubled_by a) f t));
  times = (λ unbegun. subst IsFew (ap (λ (y : Notes). y.left) (sym is)) (few unbegun), tt);
}

map-push : {X Y : Type 0} (f : X → Y) (xs : List X) (x : X) → map f (xs ++ x ∷ []) ≡ map f xs ++ f x ∷ []
map-push f [] x = refl
map-push f (y ∷ xs) x = ap (λ ys. f y ∷ ys) (map-push f xs x)

abbrev pub stays : (place : Place) (o : Found) → Grows place nothing o o
stays place o = record {
  internal = sym (append-nil (map doing_view o.internal.items));
  more = [];
  sends = sym (append-nil o.sends.items);
  carried = tt;
  receives = sym (append-nil (map receiving_view o.receives.items));
  delays = sym (append-nil o.delays.items);
  troubles = sym (append-nil o.troubles.items);
}

-- an action, a delay, a trouble, a receive or a send is pushed

pushed_doing : (o : Found) (v : Vec Doing Global) (d : Doing) → v.items ≡ o.internal.items ++ d ∷ [] → map doing_view v.items ≡ map doing_view o.internal.items ++ doing_view d ∷ []
pushed_doing o v d grown = ap (λ (l : List Doing). map doing_view l) grown ∙ map-push doing_view o.internal.items d

pub grows_action : (place copy : Place) (kind : Kind) (pos : Pos) (o : Found) (v : Vec Doing Global) → copy ≡ place
    → v.items ≡ o.internal.items ++ record { place = copy; kind = kind; pos = pos } ∷ [] → Grows place (only_does kind pos) o (record o { internal = v })
grows_action place copy kind pos o v same grown =
    let s = stays place o in record { internal = pushed_doing o v (record { place = copy; kind = kind; pos = pos }) grown ∙ ap (λ (p : Place). map doing_view o.internal.items ++ record { place = p; what = record { kind = kind; pos = pos } } ∷ []) same; more = []; sends = s.sends; carried = tt; receives = s.receives; delays = s.delays; troubles = s.troubles }

pub grows_trouble : (place : Place) (u : Trouble) (o : Found) (v : Vec Trouble Global) → v.items ≡ o.troubles.items ++ u ∷ [] → Grows place (only_troubles u) o (record o { troubles = v })
grows_trouble place u o v grown = let s = stays place o in record { internal = s.internal; more = []; sends = s.sends; carried = tt; receives = s.receives; delays = s.delays; troubles = grown }

pub grows_receive : (place copy : Place) (pos : Pos) (port : ℕ) (message name : List ℕ) (count : ℕ) (o : Found) (v : Vec ActiveReceive Global) → copy ≡ place → message ≡ name
    → v.items ≡ o.receives.items ++ record { place = copy; pos = pos; port = port; message = message; count = count } ∷ [] → Grows place (only_receives pos port name count) o (record o { receives = v })
grows_receive place copy pos port message name count o v same spelled grown =
    let s = stays place o in record {
      internal = s.internal;
      more = [];
      sends = s.sends;
      carried = tt;
      receives = ap (λ (l : List ActiveReceive). map receiving_view l) grown ∙ map-push receiving_view o.receives.items (record { place = copy; pos = pos; port = port; message = message; count = count })
          ∙ ap (λ (p : Place). map receiving_view o.receives.items ++ record { place = p; what = record { pos = pos; port = port; message = message; count = count } } ∷ []) same
          ∙ ap (λ (m : List ℕ). map receiving_view o.receives.items ++ record { place = place; what = record { pos = pos; port = port; message = m; count = count } } ∷ []) spelled;
      delays = s.delays;
      troubles = s.troubles;
    }

-- a delay of which something is left, and one of which nothing is left
pub grows_left : (place : Place) (left : ℕ) (pos : Pos) (o : Found) (v : Vec ℕ Global) → (left ≡ 0 → ⊥) → v.items ≡ o.delays.items ++ left ∷ [] → Grows place (only_waits left pos) o (record o { delays = v })
grows_left place zero pos o v some grown = absurd (some refl)
grows_left place (suc left) pos o v some grown = let s = stays place o in record { internal = s.internal; more = []; sends = s.sends; carried = tt; receives = s.receives; delays = grown; troubles = s.troubles }

pub grows_elapsed : (place copy : Place) (pos : Pos) (o : Found) (d : Vec Doing Global) (v : Vec ℕ Global) → copy ≡ place
    → d.items ≡ o.internal.items ++ record { place = copy; kind = Expire; pos = pos } ∷ [] → v.items ≡ o.delays.items ++ 0 ∷ [] → Grows place (only_waits 0 pos) o (record o { internal = d; delays = v })
grows_elapsed place copy pos o d v same grown waits =
    let s = stays place o in record { internal = (grows_action place copy Expire pos o d same grown).internal; more = []; sends = s.sends; carried = tt; receives = s.receives; delays = waits; troubles = s.troubles }

abbrev pub only_sends : walk.ActiveSend → Notes
only_sends x = record nothing { sends = Some x }

pub grows_send : (place copy : Place) (x : walk.ActiveSend) (message : List ℕ) (parcel : ParcelView) (o : Found) (v : Vec ActiveSend Global) → copy ≡ place → message ≡ x.message → IsParcelOf x.state x.values parcel
    → v.items ≡ o.sends.items ++ record { place = copy; pos = x.pos; port = x.port; message = message; parcel = parcel } ∷ [] → Grows place (only_sends x) o (record o { sends = v })
grows_send place copy x message parcel o v same spelled packed grown =
    let s = stays place o in record { internal = s.internal; more = record { place = copy; pos = x.pos; port = x.port; message = message; parcel = parcel } ∷ []; sends = grown; carried = (record { place = same; pos = refl; port = refl; message = spelled; parcel = packed }, tt); receives = s.receives; delays = s.delays; troubles = s.troubles }
