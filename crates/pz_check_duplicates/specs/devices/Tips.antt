-- Ends of channels, as far as one can repeat another.
use Rattle.std.specs.Prelude.{ℕ, Bool, false, ◌&&◌, List}
use Rattle.std.specs.Str.{bytes_eq}
use Rattle.pz_classes.specs.pz_syntax.declared.tokens.Pos.{Pos}
use Rattle.pz_classes.specs.pz_syntax.declared.clusters.ChannelEnd.{ChannelEnd}
use Rattle.pz_classes.specs.pz_syntax.declared.clusters.ChannelEnd.TheVariants.{Inner, Outer}
use Rattle.pz_check_duplicates.specs.declared.ends.EndKey.{EndKey}
use Rattle.pz_check_duplicates.specs.declared.ends.EndKey.TheVariants as key
use Rattle.pz_check_duplicates.specs.declared.places.Thing.{Thing}

-- the names of an end, and where it stands
pub data Tip : Type 0 where
  inner : Pos → List ℕ → List ℕ → Tip
  outer : Pos → List ℕ → Tip

abbrev pub tip_place : Tip → Pos
tip_place (inner pos i port) = pos
tip_place (outer pos port) = pos

abbrev pub same_tip : Tip → Tip → Bool
same_tip (inner p i port) (inner q j other) = bytes_eq i j && bytes_eq port other
same_tip (outer p port) (outer q other) = bytes_eq port other
same_tip _ _ = false

abbrev pub tip : ChannelEnd → Tip
tip (Inner i port) = inner i.pos i.name port.name
tip (Outer port) = outer port.pos port.name

abbrev pub keyed_tip : Pos → EndKey → Tip
keyed_tip pos (key.Inner i port) = inner pos i.now port.now
keyed_tip pos (key.Outer port) = outer pos port.now

abbrev pub tip_of : Thing EndKey → Tip
tip_of t = keyed_tip t.place t.key
