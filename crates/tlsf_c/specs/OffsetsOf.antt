-- The view of an arena of one of the two levels.
use Rattle.tlsf_c.specs.OffsetLevels.{LevelOffsets}
use Rattle.tlsf_c.specs.declared.any_offsets.OffsetsOfLevel.{OffsetsOfLevel}
use Rattle.tlsf_c.specs.declared.any_offsets.OffsetsOfLevel.TheVariants.{Four, Five}

abbrev pub offsets_shown : OffsetsOfLevel → LevelOffsets
offsets_shown (Four o) = record { level = 4; offsets = o }
offsets_shown (Five o) = record { level = 5; offsets = o }
