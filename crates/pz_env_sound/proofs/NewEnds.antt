-- The ends of the channels of a closed tree that are new: of an instance of the system, and of the
-- environment.
use Rattle.std.proofs.Common.{◌≡◌, ◌≢◌, refl, sym, ap, ap₂, ◌∙◌, ℕ, zero, suc, ◌≤◌, Bool, true, false, ◌||◌, List, [], ◌∷◌, ◌++◌, map, length, Some, None, IsTrue, if◌then◌else◌, slice_get, ◌⊎◌, inl, inr}
use Rattle.std.specs.List.{Contains, find, flat_map, list_any}
use Rattle.std.specs.Str.{bytes_eq}
use Rattle.std.proofs.lemmas.Bool.{and_parts, both_ways, false≢true}
use Rattle.std.proofs.lemmas.List.Elements.{Contains-append_cases}
use Rattle.pz_env_tree.specs.pz_syntax.declared.clusters.Channel.{Channel}
use Rattle.pz_env_tree.specs.pz_syntax.declared.clusters.ChannelEnd.{ChannelEnd}
use Rattle.pz_env_tree.specs.pz_syntax.declared.clusters.ChannelEnd.TheVariants.{Inner, Outer}
use Rattle.pz_env_tree.specs.pz_env_rules.Environment.{Line}
use Rattle.pz_env_tree.specs.pz_env_rules.Ends.{first_mentions, named_at}
use Rattle.pz_env_tree.specs.Names.{instance_name, port_of}
use Rattle.pz_env_tree.specs.ClosedTree.{channel_of}
use Rattle.pz_env_tree.specs.pz_classes_rules.ChannelRules.{same_end}
use Rattle.pz_env_grown.proofs.Elements.{none_in, first_in, later_in, in_cases}
use Rattle.pz_env_grown.proofs.Numbers.{none_some, some_same}
use Rattle.pz_env_sound.proofs.Distinct.{AreApart, NotLater}
use Rattle.pz_env_sound.proofs.Channels.{ends_of}
use Rattle.pz_env_sound.proofs.Ports.{EndKey, end_key, same_bytes, port_tells}

-- Lists

-- an element that passes, at its place
pub any_some : {A : Type 0} (p : A → Bool) (xs : List A) → list_any p xs ≡ true
    → (k : ℕ) × (x : A) × (slice_get xs k ≡ Some x) × (p x ≡ true)
any_some p [] is = absurd (false≢true is)
any_some {A} p (x ∷ xs) is = by (p x) refl is (any_some p xs)
  where
    by : (b : Bool) → p x ≡ b → b || list_any p xs ≡ true
        → (list_any p xs ≡ true → (k : ℕ) × (y : A) × (slice_get xs k ≡ Some y) × (p y ≡ true))
        → (k : ℕ) × (y : A) × (slice_get (x ∷ xs) k ≡ Some y) × (p y ≡ true)
    by true passes h rest = (0, x, refl, passes)
    by false fails h rest = let r = rest h in (suc r.0, r.1, r.2, r.3)

-- what is found, at its place
pub find_at : {A : Type 0} (p : A → Bool) (xs : List A) (k : ℕ) (x : A) → slice_get xs k ≡ Some x → p x ≡ true
    → (l : ℕ) × (y : A) × (slice_get xs l ≡ Some y) × (p y ≡ true) × (find p xs ≡ Some y)
find_at p [] k x at is = absurd (none_some x at)
find_at {A} p (z ∷ zs) k x at is = by (p z) refl (find_at p zs)
  where
    behind : (k : ℕ) → slice_get (z ∷ zs) k ≡ Some x → p z ≡ false → (j : ℕ) × (slice_get zs j ≡ Some x)
    behind zero here fails = absurd (both_ways (p z) fails (ap p (some_same z x here) ∙ is))
    behind (suc j) here fails = (j, here)

    by : (b : Bool) → p z ≡ b
        → ((j : ℕ) (y : A) → slice_get zs j ≡ Some y → p y ≡ true → (l : ℕ) × (w : A) × (slice_get zs l ≡ Some w) × (p w ≡ true) × (find p zs ≡ Some w))
        → (l : ℕ) × (y : A) × (slice_get (z ∷ zs) l ≡ Some y) × (p y ≡ true) × ((if b then Some z else find p zs) ≡ Some y)
    by true passes rest = (0, z, refl, passes, refl)
    by false fails rest = let j = behind k at fails in let r = rest j.0 x j.1 is in (suc r.0, r.1, r.2, r.3, r.4)

-- the last of these is found where no other passes
pub find_last : {A : Type 0} (p : A → Bool) (xs : List A) (z : A) → ((x : A) → Contains xs x → p x ≡ false) → p z ≡ true
    → find p (xs ++ z ∷ []) ≡ Some z
find_last p [] z none is = ap (λ (b : Bool). if b then Some z else None) is
find_last p (x ∷ xs) z none is =
    ap (λ (b : Bool). if b then Some x else find p (xs ++ z ∷ [])) (none x (first_in x xs))
    ∙ find_last p xs z (λ y has. none y (later_in x xs y has)) is

pub from_map : {A B : Type 0} (g : A → B) (xs : List A) (y : B) → Contains (map g xs) y → (x : A) × Contains xs x × (g x ≡ y)
from_map g [] y has = absurd (none_in y has)
from_map {A} {B} g (x ∷ xs) y has = by (in_cases (g x) (map g xs) y has) (from_map g xs y)
  where
    by : (g x ≡ y) ⊎ Contains (map g xs) y → (Contains (map g xs) y → (z : A) × Contains xs z × (g z ≡ y))
        → (z : A) × Contains (x ∷ xs) z × (g z ≡ y)
    by (inl same) rest = (x, first_in x xs, same)
    by (inr later) rest = let r = rest later in (r.0, later_in x xs r.0 r.1, r.2)

pub from_flat : {A B : Type 0} (g : A → List B) (xs : List A) (y : B) → Contains (flat_map g xs) y
    → (x : A) × Contains xs x × Contains (g x) y
from_flat g [] y has = absurd (none_in y has)
from_flat {A} {B} g (x ∷ xs) y has = by (Contains-append_cases (g x) (flat_map g xs) y has) (from_flat g xs y)
  where
    by : Contains (g x) y ⊎ Contains (flat_map g xs) y → (Contains (flat_map g xs) y → (z : A) × Contains xs z × Contains (g z) y)
        → (z : A) × Contains (x ∷ xs) z × Contains (g z) y
    by (inl here) rest = (x, first_in x xs, here)
    by (inr later) rest = let r = rest later in (r.0, later_in x xs r.0 r.1, r.2)

-- Ends

abbrev pub key_of : ChannelEnd → EndKey
key_of (Inner i p) = (i.name, p.name)
key_of (Outer p) = ([], p.name)

pub ends_alike : (x y : ChannelEnd) → IsTrue (same_end x y) → key_of x ≡ key_of y
ends_alike (Inner i p) (Inner j q) same =
    let parts = and_parts (bytes_eq i.name j.name) (bytes_eq p.name q.name) same in
    ap₂ (λ (a b : List ℕ). (a, b)) (same_bytes i.name j.name parts.0) (same_bytes p.name q.name parts.1)
ends_alike (Inner i p) (Outer q) same = absurd (false≢true same)
ends_alike (Outer p) (Inner j q) same = absurd (false≢true same)
ends_alike (Outer p) (Outer q) same = ap (λ (b : List ℕ). ([], b)) (same_bytes p.name q.name same)

module _ (lines : List Line) where
  -- the end of the instance, and that of the environment
  abbrev pub theirs : Line → ChannelEnd
  theirs x = Inner (named_at x x.entry.instance) (named_at x x.entry.port)

  abbrev pub ours : Line → ChannelEnd
  ours x = Inner (named_at x instance_name) (port_of lines x)

  abbrev pub new_channels : List Channel
  new_channels = map (channel_of lines) (first_mentions lines)

  pub data IsNewEnd (xs : List Line) (end : ChannelEnd) : Type 0 where
    of_instance : (x : Line) → Contains xs x → theirs x ≡ end → IsNewEnd xs end
    of_environment : (x : Line) → Contains xs x → ours x ≡ end → IsNewEnd xs end

  pub new_end : (xs : List Line) (end : ChannelEnd) → Contains (ends_of (map (channel_of lines) xs)) end → IsNewEnd xs end
  new_end [] end has = absurd (none_in end has)
  new_end (x ∷ xs) end has = first (in_cases (theirs x) (ours x ∷ ends_of (map (channel_of lines) xs)) end has) (new_end xs end)
    where
      more : IsNewEnd xs end → IsNewEnd (x ∷ xs) end
      more (of_instance y at is) = of_instance y (later_in x xs y at) is
      more (of_environment y at is) = of_environment y (later_in x xs y at) is

      second : (ours x ≡ end) ⊎ Contains (ends_of (map (channel_of lines) xs)) end
          → (Contains (ends_of (map (channel_of lines) xs)) end → IsNewEnd xs end) → IsNewEnd (x ∷ xs) end
      second (inl same) rest = of_environment x (first_in x xs) same
      second (inr later) rest = more (rest later)

      first : (theirs x ≡ end) ⊎ Contains (ours x ∷ ends_of (map (channel_of lines) xs)) end
          → (Contains (ends_of (map (channel_of lines) xs)) end → IsNewEnd xs end) → IsNewEnd (x ∷ xs) end
      first (inl same) rest = of_instance x (first_in x xs) same
      first (inr later) rest = second (in_cases (ours x) (ends_of (map (channel_of lines) xs)) end later) rest

  module _ (few : length lines ≤ 100000) (unnamed : (x : Line) → Contains lines x → x.entry.instance ≢ instance_name) where
    theirs_once : (x : Line) (ys : List Line) → Contains lines x → NotLater end_key x ys
        → NotLater key_of (theirs x) (ends_of (map (channel_of lines) ys))
    theirs_once x [] has differ = tt
    theirs_once x (y ∷ ys) has differ = (differ.0, (λ same. unnamed x has (ap (λ (k : EndKey). k.0) same), theirs_once x ys has differ.1))

    ours_once : (x : Line) (ys : List Line) → Contains lines x → ((y : Line) → Contains ys y → Contains lines y) → NotLater end_key x ys
        → NotLater key_of (ours x) (ends_of (map (channel_of lines) ys))
    ours_once x [] has within differ = tt
    ours_once x (y ∷ ys) has within differ = (
      λ same. unnamed y (within y (first_in y ys)) (ap (λ (k : EndKey). k.0) (sym same)),
      (
        λ same. differ.0 (port_tells lines few x y has (within y (first_in y ys)) (ap (λ (k : EndKey). k.1) same)),
        ours_once x ys has (λ z at. within z (later_in y ys z at)) differ.1,
      ),
    )

    pub ends_apart : (xs : List Line) → ((x : Line) → Contains xs x → Contains lines x) → AreApart end_key xs
        → AreApart key_of (ends_of (map (channel_of lines) xs))
    ends_apart [] within apart = tt
    ends_apart (x ∷ xs) within apart = (
      (λ same. unnamed x (within x (first_in x xs)) (ap (λ (k : EndKey). k.0) same), theirs_once x xs (within x (first_in x xs)) apart.0),
      (ours_once x xs (within x (first_in x xs)) (λ y has. within y (later_in x xs y has)) apart.0, ends_apart xs (λ y has. within y (later_in x xs y has)) apart.1),
    )
