use Rattle.euler.specs.Names.{all}
use Rattle.euler.proofs.Spelling.{unnamed}
use Rattle.euler.proofs.EulerRotFromStr.from_str.Goals as goal

pub returns-in_default : goal.returns-in_default
returns-in_default c =
    let n = c.in_default in
    unnamed c.args.name.now all (
      n.not-ZYX,
      (
        n.not-ZXY,
        (
          n.not-YXZ,
          (
            n.not-YZX,
            (
              n.not-XYZ,
              (
                n.not-XZY,
                (
                  n.not-ZYZ,
                  (
                    n.not-ZXZ,
                    (
                      n.not-YXY,
                      (
                        n.not-YZY,
                        (
                          n.not-XYX,
                          (
                            n.not-XZX,
                            (
                              n.not-ZYXEx,
                              (
                                n.not-ZXYEx,
                                (
                                  n.not-YXZEx,
                                  (
                                    n.not-YZXEx,
                                    (
                                      n.not-XYZEx,
                                      (
                                        n.not-XZYEx,
                                        (n.not-ZYZEx, (n.not-ZXZEx, (n.not-YXYEx, (n.not-YZYEx, (n.not-XYXEx, (n.not-XZXEx, tt)))))),
                                      ),
                                    ),
                                  ),
                                ),
                              ),
                            ),
                          ),
                        ),
                      ),
                    ),
                  ),
                ),
              ),
            ),
          ),
        ),
      ),
    )
