-- Which line of a trace to look at: how a heap stands after each, and where it stands worst. Also where it has most live words.
use Rattle.std.specs.Prelude.{◌≡◌, ℕ, ◌+◌, ◌<◌, ◌≤◌, Bool, true, false, ◌==◌, ◌&&◌, ◌||◌, nat_lt, if◌then◌else◌, List}
use Rattle.tlsf_picture.specs.plots.Curves.{point_in}
use Rattle.tlsf_picture.specs.plots.Points.{lacks}
use Rattle.tlsf_picture.specs.declared.plots.look.Look.{Look}
use Rattle.tlsf_picture.specs.declared.plots.peak.Peak.{Peak}
use Rattle.tlsf_picture.specs.declared.plots.point.Point.{Point}
use Rattle.tlsf_picture.specs.declared.plots.standing.Standing.{Standing}
use Rattle.tlsf_picture.specs.declared.plots.standing.Standing.TheVariants.{NoRoom, Room}

-- how a heap stands at a point. It is without room for a request of this many bytes, with a number of words free. Or it is with
-- room for it, with a number of words live and some fragmentation
abbrev pub standing_of : ℕ → Point → Standing
standing_of len point = if lacks len point then NoRoom point.free else Room point.live point.fragmentation

-- whether a heap with a number of words live and some fragmentation is fuller than another. It has more live words, or equally many
-- and more fragmentation
abbrev pub is_fuller : (live fragmentation other less : ℕ) → Bool
is_fuller live fragmentation other less = nat_lt other live || (live == other && nat_lt less fragmentation)

-- whether a heap stands worse than another. Without room is worse than with it. Without room it is worse the more words are free,
-- and with room worse the fuller
abbrev pub is_worse : Standing → Standing → Bool
is_worse (NoRoom free) (NoRoom other) = nat_lt other free
is_worse (NoRoom free) (Room live fragmentation) = true
is_worse (Room live fragmentation) (NoRoom free) = false
is_worse (Room live fragmentation) (Room other less) = is_fuller live fragmentation other less

-- how it stands at the point of a number
abbrev pub standing_in : ℕ → List Point → ℕ → Standing
standing_in len points number = standing_of len (point_in points number)

-- of the first n points it stands at none worse than at this one, which is the first of those
pub record IsWorst (len : ℕ) (points : List Point) (n number : ℕ) : Type 0 where
  pub within : number < n
  pub most : (i : ℕ) → i < n → is_worse (standing_in len points i) (standing_in len points number) ≡ false
  pub first : (i : ℕ) → i < number → is_worse (standing_in len points number) (standing_in len points i) ≡ true

-- its line, and how the heap stands there; the first point stands after line 1
pub record IsLook (len : ℕ) (points : List Point) (n : ℕ) (look : Look) : Type 0 where
  pub number : ℕ
  pub line : look.line ≡ number + 1
  pub standing : look.standing ≡ standing_in len points number
  pub worst : IsWorst len points n number

-- the words that are live at the point of a number
abbrev pub live_in : List Point → ℕ → ℕ
live_in points number = (point_in points number).live

-- of the first n points none has more live words than this one, and it is the first of those. The first point stands after line 1
pub record IsPeak (points : List Point) (n : ℕ) (peak : Peak) : Type 0 where
  pub number : ℕ
  pub within : number < n
  pub line : peak.line ≡ number + 1
  pub live : peak.live ≡ live_in points number
  pub most : (i : ℕ) → i < n → live_in points i ≤ peak.live
  pub first : (i : ℕ) → i < number → live_in points i < peak.live
