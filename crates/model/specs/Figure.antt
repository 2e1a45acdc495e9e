-- The panel's figure and the service figure (request 2026-04): the last point that a reading over all time hands out, as a whole number for the panel, in full
-- for service tools. Assumes nothing.
use Rattle.std.specs.Prelude.{ℕ, ◌-◌, ◌*◌, ◌^◌, ◌≡◌, ◌≢◌, Bool, true, false, cond, List, [], ◌∷◌, leb, ℤ, pos, Float, Option, Some, None, Result, Ok, Err}
use Rattle.std.specs.Float.{nan, inf, fin, binary64}
use Rattle.std.specs.Float.Ieee.{of_bits, eq, up, down}
use Rattle.std.specs.Float.Ieee.Nearest.{closest}
use Rattle.model.specs.declared.Point.{Point}
use Rattle.model.specs.Words.{number_of, signed}
use Rattle.model.specs.Read.{points_of}
use Rattle.model.specs.Lent.{Lent}
use Rattle.model.specs.Query.{QueryReply, found, not_found, query}
use Rattle.model.specs.declared.ServiceFigure.{ServiceFigure}
use Rattle.model.specs.declared.Refusal.{Refusal}

-- ---- the reading, and its last point

-- all time goes from 0 up to 2^64 - 1, which is left out as every range's end is
unfoldable pub end_of_time : ℕ
end_of_time = 2 ^ 64 - 1

-- of schema k's column c in tier j: opening's order, 11, 14, or the ring's ends and a reader. All time is a range, so 15 has no case
unfoldable pub reading : Lent → ℕ → ℕ → ℕ → QueryReply
reading l k c j = query l k c j 0 end_of_time

-- the last of these points; where there is none, x
unfoldable pub last_after : Option Point → List Point → Option Point
last_after x [] = x
last_after x (p ∷ ps) = last_after (Some p) ps

-- the last point that a reading hands out
unfoldable pub last_on : QueryReply → Option Point
last_on (not_found n) = None
last_on (found a) = last_after None (points_of a.reader)

-- ---- the panel

-- not beyond ±2^53, nor infinite. NaN is never handed out
unfoldable pub on_panel : Float → Bool
on_panel nan = false
on_panel (inf s) = false
on_panel (fin s m e) = leb (m * up e) (2 ^ 53 * down e)

-- the whole number nearest to it, of two that are equally near the even one. It is asked of values on the panel alone
unfoldable pub nearest_whole : Float → ℤ
nearest_whole nan = pos 0
nearest_whole (inf s) = pos 0
nearest_whole (fin s m e) = signed s (closest (m * up e) (down e))

pub data PanelReply : Type 0 where
  shows : ℤ → PanelReply
  shows_nothing : PanelReply
  not_shown : (refusal : ℕ) → PanelReply

unfoldable pub shown_value : Float → PanelReply
shown_value x = cond (on_panel x) (shows (nearest_whole x)) (not_shown 17)

-- 17 is tried last, and only where there is a point
unfoldable pub shown_point : Option Point → PanelReply
shown_point None = shows_nothing
shown_point (Some p) = shown_value (of_bits binary64 p.value)

unfoldable pub panel_on : QueryReply → PanelReply
panel_on (not_found n) = not_shown n
panel_on (found a) = shown_point (last_on (found a))

unfoldable pub panel : Lent → ℕ → ℕ → ℕ → PanelReply
panel l k c j = panel_on (reading l k c j)

-- ---- service tools

pub data ServiceReply : Type 0 where
  serves : (stamp value : ℕ) (oldest newest : Option ℕ) → ServiceReply
  serves_nothing : ServiceReply
  not_served : (refusal : ℕ) → ServiceReply

-- the last point in full, with both ends of the reading, which are there where a point is (figure_theory, `service-ends`)
unfoldable pub served_point : Option Point → Option ℕ → Option ℕ → ServiceReply
served_point None o n = serves_nothing
served_point (Some p) o n = serves p.stamp p.value o n

unfoldable pub service_on : QueryReply → ServiceReply
service_on (not_found n) = not_served n
service_on (found a) = served_point (last_on (found a)) a.oldest a.newest

unfoldable pub service : Lent → ℕ → ℕ → ℕ → ServiceReply
service l k c j = service_on (reading l k c j)

-- ---- the code's answers in the documents' numbers

unfoldable pub panel_reply : Result (Option ℤ) Refusal → PanelReply
panel_reply (Ok (Some z)) = shows z
panel_reply (Ok None) = shows_nothing
panel_reply (Err r) = not_shown (number_of r)

unfoldable pub service_reply : Result (Option ServiceFigure) Refusal → ServiceReply
service_reply (Ok (Some f)) = serves f.stamp f.value f.oldest f.newest
service_reply (Ok None) = serves_nothing
service_reply (Err r) = not_served (number_of r)

-- ---- what the request claims

-- two last points agree in value: equal as numbers, 0.0 and -0.0 too, or there is neither
unfoldable pub agree : Option Point → Option Point → Bool
agree None None = true
agree None (Some q) = false
agree (Some p) None = false
agree (Some p) (Some q) = eq (of_bits binary64 p.value) (of_bits binary64 q.value)

-- two stores that agree in that value show the same on the panel, whatever else they hold, once neither call is refused
unfoldable pub SameOnPanel : Type 0
SameOnPanel =
    (l l' : Lent) (k c j k' c' j' : ℕ)
    → ((n : ℕ) → panel l k c j ≢ not_shown n) → ((n : ℕ) → panel l' k' c' j' ≢ not_shown n)
    → agree (last_on (reading l k c j)) (last_on (reading l' k' c' j')) ≡ true
    → panel l k c j ≡ panel l' k' c' j'

-- names the definitions of this module, the claim aside, for a proof by computation: `unfolding Figure-defs`
unfoldable pub Figure-defs : Unit {0}
unfolding end_of_time reading last_after last_on on_panel nearest_whole shown_value shown_point panel_on panel served_point service_on service panel_reply service_reply agree
Figure-defs = tt
