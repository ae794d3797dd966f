-- Frames that are closed one after the other.
use Rattle.std.proofs.Common.{◌≡◌, ◌<◌, ◌+◌, ℕ, Bool, true, false, cond, nat_eq, List, [], ◌∷◌, ◌++◌, map, length, take, drop, get_or, IsSome, refl, sym, ap, ◌∙◌, arith, eq-eqb, append_assoc, append-nil}
use Rattle.std.specs.Prelude.{if◌then◌else◌}
use Rattle.std.specs.List.{filter, All, AllPairs}
use Rattle.std.proofs.lemmas.Bool.{ne_eqb}
use Rattle.std.proofs.lemmas.List.{drop_more, get_or-take, get_or-map, length-map, length-take-le}
use Rattle.std.proofs.lemmas.List.Elements.{All-head, All-tail, All-filter, filter_more}
use Rattle.pz_rules.specs.pz_value.declared.value.Value.{Value}
use Rattle.pz_rules.specs.pz_state.declared.state.FrameId.{FrameId}
use Rattle.pz_rules.specs.pz_state.States.{StateView, Frames, HasFrame, locals_in, without_frame, closed}
use Rattle.pz_rules.specs.pz_state.Marks.{Seen, changed}
use Rattle.pz_term_frames.specs.devices.Swept.{swept_up_to}

abbrev OpenFrame : Type 0
OpenFrame = ℕ × List Value

abbrev none_there : OpenFrame
none_there = (0, [])

itself : (n : ℕ) → nat_eq n n ≡ true
itself n = eq-eqb n n refl

is_there : (before : Frames) (f : OpenFrame) (behind : Frames) → IsSome (locals_in (before ++ f ∷ behind) f.0)
is_there [] f behind = rw (itself f.0) refl
is_there (g ∷ gs) f behind = by (nat_eq g.0 f.0) refl (is_there gs f behind)
  where
    by : (b : Bool) → nat_eq g.0 f.0 ≡ b → IsSome (locals_in (gs ++ f ∷ behind) f.0) → IsSome (locals_in (g ∷ (gs ++ f ∷ behind)) f.0)
    by true is deeper = rw is refl
    by false is deeper = rw is deeper

closed_there : (before : Frames) (f : OpenFrame) (behind : Frames) → All (λ (g : OpenFrame). g.0 < f.0) before → without_frame f.0 (before ++ f ∷ behind) ≡ before ++ behind
closed_there [] f behind below = rw (itself f.0) refl
closed_there (g ∷ gs) f behind below =
    let less : g.0 < f.0 = All-head (λ (h : OpenFrame). h.0 < f.0) g gs below in
    let other : nat_eq g.0 f.0 ≡ false = ne_eqb g.0 f.0 (λ e. omega arith) in
    rw other (ap (λ (hs : Frames). g ∷ hs) (closed_there gs f behind (All-tail (λ (h : OpenFrame). h.0 < f.0) g gs below)))

abbrev keeps : (ℕ → Bool) → OpenFrame → Bool
keeps stays f = stays f.0

abbrev with_frames : StateView → Frames → StateView
with_frames s fs = record s { frames = fs }

-- each frame has a number below those of the further ones
below_next : (fs : Frames) (k : ℕ) → k < length fs → AllPairs (λ m n. m < n) (map (λ (f : OpenFrame). f.0) fs) → All (λ (g : OpenFrame). g.0 < (get_or fs k none_there).0) (take k fs)
below_next fs k within ordered j d inside =
    let front = length-take-le k fs (omega (arith, within)) in
    let before : j < k = omega (arith, front, inside) in
    let less = ordered j k 0 before (rw (length-map fs (λ (f : OpenFrame). f.0)) within) in
    let this = get_or-map (λ (f : OpenFrame). f.0) fs j d 0 (omega (arith, before, within)) ∙ ap (λ (f : OpenFrame). f.0) (sym (get_or-take k fs j d before)) in
    let next = get_or-map (λ (f : OpenFrame). f.0) fs k none_there 0 within in
    omega (arith, less, this, next)

-- one frame after the other
module _ (stays : ℕ → Bool) (o : StateView) (k : ℕ) (within : k < length o.frames) where
  abbrev front : Frames
  front = filter (keeps stays) (take k o.frames)

  abbrev this : OpenFrame
  this = get_or o.frames k none_there

  abbrev rest : Frames
  rest = drop (k + 1) o.frames

  from_here : drop k o.frames ≡ this ∷ rest
  from_here = drop_more o.frames k none_there within

  longer : (b : Bool) → keeps stays this ≡ b → filter (keeps stays) (take (k + 1) o.frames) ≡ front ++ cond b (this ∷ []) []
  longer b is = filter_more (keeps stays) o.frames k none_there within ∙ ap (λ (c : Bool). front ++ cond c (this ∷ []) []) is

  next_closed : AllPairs (λ m n. m < n) (map (λ (f : OpenFrame). f.0) o.frames)
      → (if keeps stays this then swept_up_to stays k o else closed (swept_up_to stays k o) this.0) ≡ swept_up_to stays (k + 1) o
  next_closed ordered = by (keeps stays this) refl
    where
      by : (b : Bool) → keeps stays this ≡ b → (if b then swept_up_to stays k o else closed (swept_up_to stays k o) this.0) ≡ swept_up_to stays (k + 1) o
      by true is =
          ap (with_frames o) (ap (λ (fs : Frames). front ++ fs) from_here ∙ sym (append_assoc front (this ∷ []) rest) ∙ ap (λ (fs : Frames). fs ++ rest) (sym (longer true is)))
      by false is =
          ap (with_frames o)
          (ap (λ (fs : Frames). without_frame this.0 (front ++ fs)) from_here
          ∙ closed_there front this rest (All-filter (keeps stays) (λ (g : OpenFrame). g.0 < this.0) (take k o.frames) (below_next o.frames k within ordered))
          ∙ ap (λ (fs : Frames). fs ++ rest) (sym (append-nil front))
          ∙ ap (λ (fs : Frames). fs ++ rest) (sym (longer false is)))

  this_there : (n : ℕ) (was s : Seen) → was.held ≡ o → n ≡ this.0 → s ≡ changed was (swept_up_to stays k o) → HasFrame s.held n
  this_there n was s held number so_far =
      let same : locals_in s.held.frames n ≡ locals_in (front ++ this ∷ rest) this.0 =
      ap (λ (z : Seen). locals_in z.held.frames n) so_far ∙ ap (λ (fs : Frames). locals_in (front ++ fs) n) from_here ∙ ap (λ (m : ℕ). locals_in (front ++ this ∷ rest) m) number in
      rw same (is_there front this rest)

abbrev unnumbered : FrameId
unnumbered = record { 0 = 0 }

-- the number of a frame, by the list of numbers
number_is : (frames : List FrameId) (fs : Frames) (k : ℕ) → k < length frames → map (λ (n : FrameId). n.0) frames ≡ map (λ (f : OpenFrame). f.0) fs
    → (k < length fs) × ((get_or frames k unnumbered).0 ≡ (get_or fs k none_there).0)
number_is frames fs k within same =
    let inside : k < length fs = omega (arith, within, length-map frames (λ (n : FrameId). n.0), length-map fs (λ (f : OpenFrame). f.0), ap (λ (l : List ℕ). length l) same) in (
      inside,
      sym (get_or-map (λ (n : FrameId). n.0) frames k unnumbered 0 within) ∙ ap (λ (l : List ℕ). get_or l k 0) same ∙ get_or-map (λ (f : OpenFrame). f.0) fs k none_there 0 inside,
    )

-- the frames by their numbers, of which so many are done with
module _ (stays : ℕ → Bool) (frames : List FrameId) (o s : Seen) (k : ℕ) (within : k < length frames)
    (same : map (λ (n : FrameId). n.0) frames ≡ map (λ (f : OpenFrame). f.0) o.held.frames) (so_far : s ≡ changed o (swept_up_to stays k o.held)) where
  pub frame_there : HasFrame s.held (get_or frames k unnumbered).0
  frame_there = let at = number_is frames o.held.frames k within same in this_there stays o.held k at.0 (get_or frames k unnumbered).0 o s refl at.1 so_far

  pub one_closed : (t : Seen) → AllPairs (λ m n. m < n) (map (λ (f : OpenFrame). f.0) o.held.frames)
      → t ≡ changed s (if stays (get_or frames k unnumbered).0 then s.held else closed s.held (get_or frames k unnumbered).0) → t ≡ changed o (swept_up_to stays (k + 1) o.held)
  one_closed t ordered closes =
      let at = number_is frames o.held.frames k within same in
      closes
      ∙ ap (λ (z : Seen). changed z (if stays (get_or frames k unnumbered).0 then z.held else closed z.held (get_or frames k unnumbered).0)) so_far
      ∙ ap (λ (n : ℕ). changed o (if stays n then swept_up_to stays k o.held else closed (swept_up_to stays k o.held) n)) at.1
      ∙ ap (changed o) (next_closed stays o.held k at.0 ordered)
