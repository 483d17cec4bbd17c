use Rattle.std.proofs.Common.{◌∙◌, ◌++◌, map, sym, subst, Option}
use Rattle.tm_base.specs.Handed.{Item}
use Rattle.tm_base.proofs.Handing.{HandedOver-append}
use Rattle.tm_windows.specs.declared.choosing.Chosen.{Chosen}
use Rattle.tm_inner.specs.InnerDecoding.{lost_in, ready_in}
use Rattle.tm_inner.specs.InnerWindows.{windows_in}
use Rattle.tm_inner.specs.Phase.{IsChosen}
use Rattle.tm_inner.proofs.DecodedWindows.{told-ended}
use Rattle.tm_inner.proofs.DecoderPieces.{IsLater, ended-all, ended-chosen}
use Rattle.tm_inner.proofs.watch.watch_last.Goals as goal

pub returns-clause-read : goal.returns-clause-read
returns-clause-read g c =
    let told = g.W.WindowWatch.told in
    let d = c.args.inner.now in
    let s = c.settle in
    let r = c.watch_due in
    let h = r.ensures.read in
    let l = c.last-end in
    let e = l.ensures in
    let ready = ready_in l.new.self.queue in
    let later : IsLater d s.new.self =
    record { config = s.ensures.config; phase = s.ensures.phase; stays = s.ensures.stays } in
    record {
      config = e.config ∙ h.config ∙ s.ensures.config;
      ended = e.ended ∙ h.ended ∙ s.ensures.ended;
      last = h.read.more ++ map Item ready;
      handed = HandedOver-append told c.args.watch.now r.new.watch c.watch_ready.new.watch h.read.more (map Item ready)
          h.read.handed c.watch_ready.ensures.blocks;
      all = ended-all told d s.new.self r.new.inner later s.ensures.stands s.ensures.ended c.args.watch.now r.new.watch
          h ready l.result.leftover l.result.bits l.result.slips (lost_in l.new.self.queue) e.ends;
      chosen = λ given done stood. subst (λ (o : Option Chosen). IsChosen d.config given o) (sym e.phase.0)
          (ended-chosen d s.new.self r.new.inner later s.ensures.stands s.ensures.ended h.config h.ended h.kept given
          done stood);
      left = e.left;
    }

pub returns-clause-watched : goal.returns-clause-watched
returns-clause-watched g c = λ leaves.
    let d = c.args.inner.now in
    let s = c.settle in
    let r = c.watch_due in
    let l = c.last-end in
    let h = r.ensures.watched leaves in
    let took = g.W.WindowWatch.took in
    let watch = c.args.watch.now in
    let now = c.watch_ready.new.watch in (
      h.more ++ windows_in l.new.self,
      HandedOver-append took watch r.new.watch now h.more (windows_in l.new.self) h.handed
          c.watch_ready.ensures.windows,
      told-ended took d s.new.self r.new.inner l.new.self watch r.new.watch l.result.leftover s.ensures.config
          s.ensures.stays (λ given blocks stood. (s.ensures.stands given blocks stood).0) h r.ensures.read.config
          (r.ensures.read.ended ∙ s.ensures.ended) l.ensures.config l.ensures.phase.0
          (λ given blocks stood choice. (l.ensures.ends given blocks stood choice).0) l.ensures.windows,
    )
