pub use Rattle.pz_part_opening.specs as pz_part_opening
