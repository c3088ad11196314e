use Rattle.std.proofs.Common.{◌≡◌, ◌<◌, ◌+◌, length, Some, slice_get, refl, sym, ap, subst, ◌∙◌, arith}
use Rattle.std.proofs.lemmas.Option.{slice_get_read}
use Rattle.std.proofs.lemmas.Result.{on_ok_weaker}
use Rattle.wavelet_op.specs.Acts.{meanings}
use Rattle.wavelet_op.specs.Deltas.{DeltaOf}
use Rattle.wavelet_op.specs.States.{run}
use Rattle.wavelet_container.specs.Trails.{IsKeptBack, place_of}
use Rattle.wavelet_container.specs.declared.trail.Trail.{Trail}
use Rattle.wavelet_container.proofs.Trails.{can_go, one_at, went_forward}
use Rattle.wavelet_container.proofs.trail.Trail.forward.Goals as goal

pub invert_valid-requires : goal.invert_valid-requires
invert_valid-requires c =
    let ds = c.args.deltas.now in
    let t = c.args.self.now in
    let d = c.index-deltas-place.result in
    let here : t.first + c.len.result ≡ place_of t = omega (arith, c.len.ensures, t.backs.ok) in
    let inside : t.first + c.len.result < length ds = omega (arith, here, c.requires.before) in
    let got = subst (λ k. slice_get ds k ≡ Some d) here (slice_get_read ds (length ds) (t.first + c.len.result) d refl inside c.index-deltas-place.is) in
    let ops = ap (λ (x : DeltaOf). x.ops) c.delta.view_is in
    λ none. can_go ds (place_of t) d t.state c.requires.valid (one_at ds (place_of t) d got) c.requires.trail.leads (ap (λ o. run t.state (meanings o)) (sym ops) ∙ none)

pub returns-clause-trail : goal.returns-clause-trail
returns-clause-trail c =
    let ds = c.args.deltas.now in
    let t = c.args.self.now in
    let d = c.index-deltas-place.result in
    let m : Trail = record { state = c.invert_valid.new.state; first = t.first; backs = t.backs } in
    let here : t.first + c.len.result ≡ place_of t = omega (arith, c.len.ensures, t.backs.ok) in
    let inside : t.first + c.len.result < length ds = omega (arith, here, c.requires.before) in
    let got = subst (λ k. slice_get ds k ≡ Some d) here (slice_get_read ds (length ds) (t.first + c.len.result) d refl inside c.index-deltas-place.is) in
    let ops = ap (λ (x : DeltaOf). x.ops) c.delta.view_is in
    on_ok_weaker c.keep.result
    (λ kept. (went_forward ds d t m c.keep.new.self c.in_ok-back.back c.requires.trail c.requires.before (one_at ds (place_of t) d got) (ap (λ o. run t.state (meanings o)) (sym ops) ∙ c.in_ok-back.ensures.ok) c.in_ok-back.ensures.back refl refl c.keep.ensures.state
    (subst (λ k. IsKeptBack k c.in_ok-back.back m c.keep.new.self) here kept)).0)
    c.keep.ensures.kept
