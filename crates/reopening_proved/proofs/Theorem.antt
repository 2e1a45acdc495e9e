-- An opening changes nothing, proved: `proof : OpeningChangesNothing`, and the request's own words from it. Every ring of a store is tidy from creation on; so
-- with the flags that opening works out and with those that were left the store answers alike, then and later. Assumes nothing.
use Rattle.std.specs.Prelude.{◌≡◌, List, [], ◌∷◌}
use Rattle.std.proofs.Math.Path.{refl}
use Rattle.std.proofs.Common.{sym, ap, ◌∙◌}
use Rattle.model.specs.declared.Point.{Point}
use Rattle.model.specs.Image.{create_check, open_check}
use Rattle.model.specs.Store.{Reply, refused, done, wrote, read, open_call, call, after, Shown, refusal, accepted, writes, points, shown}
use Rattle.demand.specs.Demand.{handed_out}
use Rattle.reopening.specs.Reopening.{History, created, left, reopened, OpeningChangesNothing, AsRequested}
use Rattle.image_theory.specs.Calls.{opened_image, after-append}
use Rattle.reopening_proved.specs.Tidy.{Tidy, tidy_blank, tidy_write, tidy_opened}
use Rattle.reopening_proved.specs.Each.{each-call, each_left}
use Rattle.reopening_proved.proofs.Level.{AllTidy}
use Rattle.reopening_proved.proofs.Twins.{Twins, reply_same, twins_after}

-- ---- the claim

reopened-is : (h : History) → reopened h ≡ (call (left h) (open_call h.handed)).lent
unfolding reopened left
reopened-is h = after-append h.calls (created h) (open_call h.handed ∷ []) ∙ unfold after in refl

module _ (h : History) (ok : create_check h.plan h.buf ≡ 0) where
  tidy_left : open_check (left h).image ≡ 0 → AllTidy (left h)
  tidy_left = each_left Tidy tidy_write tidy_opened tidy_blank h ok

  twins : Twins (left h) (call (left h) (open_call h.handed)).lent
  twins = record {
    image_is = unfold call in (opened_image (record { image = (left h).image; flags = h.handed }));
    tidy = tidy_left;
    tidy' = λ e. each-call Tidy tidy_write tidy_opened (left h) (open_call h.handed) (tidy_left e);
  }

pub proof : OpeningChangesNothing
unfolding OpeningChangesNothing
proof h ok next =
    let o = (call (left h) (open_call h.handed)).lent in
    let t = twins_after next (left h) o (twins h ok) in
    rw (reopened-is h) (t.image_is, λ c. reply_same (after (left h) next) (after o next) t c)

-- ---- the request's own words

-- a reply's points are among what is seen of it
points_shown : Shown → List Point
points_shown (refusal n) = []
points_shown accepted = []
points_shown (writes k) = []
points_shown (points j o n start end m ps) = ps

shown-points : (r : Reply) → handed_out r ≡ points_shown (shown r)
unfolding handed_out shown points_shown
shown-points (refused n) = refl
shown-points done = refl
shown-points (wrote k) = refl
shown-points (read a) = refl

pub as_requested : AsRequested
unfolding AsRequested OpeningChangesNothing after
as_requested h ok steady c = shown-points (call (reopened h) c).reply ∙ ap points_shown ((proof h ok []).1 c) ∙ sym (shown-points (call (left h) c).reply)
