use Rattle.std.proofs.Common.{◌≡◌, List, Option, Some, None, option_map, IfSome, Bor, ℕ, refl, rules, subst, sym}
use Rattle.shard_marks.specs.Passes.{marks_of}
use Rattle.wavelet_shelf.specs.Hosting.{Hosted}
use Rattle.wave_server.specs.Running.{BeginWith}
use Rattle.wave_program.specs.Net.{IsHosted}
use Rattle.wave_program.proofs.Hosting.{hosted_plain, hosted_over}
use Rattle.wave_program.proofs.net.serve_net.Goals as goal

pub returns-in-None : goal.returns-in-None
returns-in-None g c =
    let is : c.args.store ≡ None = search rules in
    let old = c.args.outside.now in
    let passes = c.serve.new.server.passes in
    let begun = subst (λ (hs : List Hosted). IfSome passes (λ p. BeginWith c.args.domain hs (marks_of p))) c.new.ensures.hosted c.serve.ensures.begun in
    record {
      run = c.serve.ensures.run;
      hosted = subst (λ (o : Option (Bor (List ℕ))). IsHosted g.F.Folder g.F.Disk.Disk g.W.Sink c.args.domain (option_map (λ s. s.now) o) passes old.folder old.folder old.sink old.sink c.serve.result) (sym is)
          (hosted_plain g.F.Folder g.F.Disk.Disk g.W.Sink g.C.Clock c.args.domain passes old.folder old.sink c.serve.result c.serve.ensures.known begun);
      source = refl;
    }

pub returns-in-Some : goal.returns-in-Some
returns-in-Some g c =
    let is : c.args.store ≡ Some c.in-Some.path = search rules in
    let old = c.args.outside.now in
    let after = c.serve_path.new.outside in
    record {
      run = c.serve_path.ensures.run;
      hosted = subst (λ (o : Option (Bor (List ℕ))). IsHosted g.F.Folder g.F.Disk.Disk g.W.Sink c.args.domain (option_map (λ s. s.now) o) after.server.passes old.folder after.folder old.sink after.sink c.serve_path.result) (sym is)
          (hosted_over g.F.Folder g.F.Disk.Disk g.W.Sink g.C.Clock c.args.domain c.in-Some.path.now after.server.passes old.folder after.folder old.sink after.sink c.serve_path.result c.serve_path.ensures.hosted);
      source = c.serve_path.ensures.source;
    }
