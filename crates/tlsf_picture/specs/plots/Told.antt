-- The meaning of a plot of heaps. How it draws their points is in no clause.
use Rattle.std.specs.Prelude.{ℕ, List, [], ◌∷◌, ◌++◌, codes}
use Rattle.std.specs.Fmt.{decimal}
use Rattle.tlsf_map.specs.Told.{all_told}
use Rattle.tlsf_picture.specs.declared.form.Form.{Form}
use Rattle.tlsf_picture.specs.declared.form.Form.TheVariants.{Svg, Text}
use Rattle.tlsf_picture.specs.declared.plots.chart.Chart.{Chart}
use Rattle.tlsf_picture.specs.declared.plots.rows.TheConstants.{BARS}
use Rattle.tlsf_picture.specs.declared.plots.standing.Standing.{Standing}
use Rattle.tlsf_picture.specs.declared.plots.standing.Standing.TheVariants.{NoRoom, Room}
use Rattle.tlsf_picture.specs.declared.plots.svg.TheConstants.{COLOURS}

-- the words that are free where a heap stands without room, and else those that are live
abbrev pub words_told : Standing → ℕ
words_told (NoRoom free) = free
words_told (Room live fragmentation) = live

-- of a heap its number and its words, its longest request, the line to look at and its peak, each with its words
abbrev pub chart_told : Chart → List (List ℕ)
chart_told chart =
    (codes "heap " ++ (decimal chart.heap ++ (codes ": " ++ (decimal chart.words ++ codes " words"))))
    ∷ (codes "longest request " ++ decimal chart.longest)
    ∷ (codes " moment: line " ++ (decimal chart.look.line ++ (codes ": " ++ (decimal (words_told chart.look.standing) ++ codes " words"))))
    ∷ (codes "peak: line " ++ (decimal chart.peak.line ++ (codes ": " ++ (decimal chart.peak.live ++ codes " words"))))
    ∷ []

-- first what each colour or bar is, and then the heaps
abbrev pub plot_told : Form → List Chart → List (List ℕ)
plot_told Svg charts = COLOURS.now ∷ all_told chart_told charts
plot_told Text charts = BARS.now ∷ all_told chart_told charts
