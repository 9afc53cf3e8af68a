use Rattle.std.proofs.Common.{◌≡◌, ◌<◌, ◌≤◌, length, arith}
use Rattle.std.specs.List.{enumerate_from}
use Rattle.std.proofs.lemmas.List.FromFn.{length-enumerate_from}
use Rattle.std.proofs.lemmas.Option.{slice_get_within}
use Rattle.std.proofs.lemmas.Result.{err_from_is_err_and}
use Rattle.thread_set.proofs.Parts.{eight-model}
use Rattle.domain_view.specs.Models.{view_model}
use Rattle.tp_report.specs.Texts.{thread_text, threads_text}
use Rattle.tp_report.proofs.Each.{added_each, cut_in_each, added_all}
use Rattle.tp_report.proofs.Places.{place_of}
use Rattle.tp_report.proofs.report.write_threads.Goals as goal

pub returns-in_err-write_thread : goal.returns-in_err-write_thread
unfolding threads_text
returns-in_err-write_thread g c =
    let p = err_from_is_err_and c.from_residual.result c.from_residual.ensures.1 in
    let xs = (view_model c.args.view.now).threads in
    let t = c.loop-t.t in
    let x = c.thread.result in
    let within : t < length (enumerate_from 0 xs) =
    omega (arith, length-enumerate_from 0 xs, slice_get_within xs t x c.thread.ensures.value) in
    rw p.1 (record {
      adds =
          cut_in_each thread_text (enumerate_from 0 xs) t (t, x) _ _ _ within
          (place_of xs t x c.thread.ensures.value) c.loop-t.invariant c.in_err-write_thread.ensures.adds;
    })

pub loop-t-preserved : goal.loop-t-preserved
loop-t-preserved g c =
    let xs = (view_model c.args.view.now).threads in
    let t = c.loop-t.t in
    let x = c.thread.result in
    let within : t < length (enumerate_from 0 xs) =
    omega (arith, length-enumerate_from 0 xs, slice_get_within xs t x c.thread.ensures.value) in
    added_each thread_text (enumerate_from 0 xs) t (t, x) _ _ _ within
    (place_of xs t x c.thread.ensures.value) c.loop-t.invariant c.in_ok-write_thread.ensures.adds

pub returns : goal.returns
unfolding threads_text
returns g c =
    let xs = (view_model c.args.view.now).threads in
    let eight : length xs ≡ 8 = (eight-model c.args.view.now.domain.now.threads).eight in
    let end : length (enumerate_from 0 xs) ≤ c.loop-t.t = omega (arith, length-enumerate_from 0 xs, eight) in
    record { adds = added_all thread_text (enumerate_from 0 xs) c.loop-t.t _ _ end c.loop-t.invariant }
