-- References name objects that are there, and the items of an object have numbers of 32 bits.
use Rattle.std.specs.Prelude.{◌<◌, ◌^◌, ℕ, length, All}
use Rattle.pz_value.specs.declared.value.Value.{Value}
use Rattle.pz_value.specs.declared.value.Value.TheVariants as value
use Rattle.pz_state.specs.States.{StateView}

-- where there are this many objects: a value that is a reference names one of them
abbrev pub RefersWithin : ℕ → Value → Type 0
RefersWithin count (value.Ref r) = r < count
RefersWithin count _ = Unit {0}

-- each reference in a state names one of its objects, and each object has fewer than 2^32 items
pub record IsSelfContained (s : StateView) : Type 0 where
  pub vars : All (RefersWithin (length s.objects)) s.vars
  pub frames : All (λ f. All (RefersWithin (length s.objects)) f.1) s.frames
  pub objects : All (λ o. All (RefersWithin (length s.objects)) o.items) s.objects
  pub counted : All (λ o. length o.items < 2 ^ 32) s.objects
