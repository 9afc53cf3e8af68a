use Rattle.image_check.specs.Image.{image_from}
use Rattle.machine_tests.proofs.domain_alone.run.Goals as goal

pub load-requires : goal.load-requires
load-requires c = record {
  image = record {
    image = image_from c.args.image.now;
    runnable = c.runnable.ensures.runnable;
    domain = c.runnable.ensures.runnable.some_domain;
    public = c.public.ensures.value;
    own = c.own.ensures.value;
  };
}
