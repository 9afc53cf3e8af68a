use Rattle.image_check.specs.Image.{image_from}
use Rattle.hart_tests.proofs.images.write_alone.Goals as goal

pub load-requires : goal.load-requires
load-requires c = record {
  image = record {
    image = image_from c.args.image.now;
    runnable = c.runnable.ensures.runnable;
    domain = c.requires.domain;
    public = c.public.ensures.value;
    own = rw c.from.ensures at c.own-own.ensures.value;
  };
}
