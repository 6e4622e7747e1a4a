-- The curve of a heap: its points, as many of them as one as it takes.
use Rattle.std.specs.Prelude.{ℕ, ◌+◌, ◌-◌, ◌*◌, ◌/◌, List, length, map, take, drop, slice_index_or, fold}
use Rattle.std.specs.List.{range_with_len}
use Rattle.tlsf_picture.specs.plots.Points.{untouched, worse}
use Rattle.tlsf_picture.specs.declared.plots.point.Point.{Point}

-- the worst of some points of a heap of this many words, number by number
abbrev pub worst_of : ℕ → List Point → Point
worst_of words points = fold worse (untouched words) points

-- how many points are drawn as one, so that no more than the most are drawn
abbrev pub stride_for : ℕ → ℕ → ℕ
stride_for most points = (points + (most - 1)) / most

-- those that are drawn as one, of this number
abbrev pub bucket : ℕ → List Point → ℕ → List Point
bucket stride points number = take stride (drop (number * stride) points)

-- how many are drawn
abbrev pub buckets_in : ℕ → ℕ → ℕ
buckets_in stride points = (points + (stride - 1)) / stride

-- each of them at its worst
abbrev pub curve_of : ℕ → ℕ → List Point → List Point
curve_of words stride points = map (λ number. worst_of words (bucket stride points number)) (range_with_len 0 (buckets_in stride (length points)))

-- the point of a number
abbrev pub point_in : List Point → ℕ → Point
point_in points number = slice_index_or points number (untouched 0)
